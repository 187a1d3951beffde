-- `placing::placement::copies_for` meets its contract: the copies are those of the checkout, and each answer is what the steps make of them.
use native.Mathlib.Omega.{arith}
use Rattle.placing.proofs.PlacingJobLaws.{job_row, job_text, job_name, job_low, checkout_job, copies_lie, copies_few, copies_fit, copies_too_deep, copies_too_many, copies_ready}
use Rattle.placing.proofs.placement.copies_for.Goals as goal

pub new_group-requires : goal.new_group-requires
new_group-requires c = job_row c.requires.checkout

pub last_name-requires : goal.last_name-requires
last_name-requires c = job_text c.requires.checkout

pub copy_entry-n-requires : goal.copy_entry-n-requires
copy_entry-n-requires c =
    let j = c.requires.checkout in
    let g = c.new_group in
    let name = c.last_name in
    record {
      entry_job = checkout_job j g.result g.ensures;
      at_in_bounds = c.requires.filed_in_bounds;
      most_levels_bound = job_low j;
      name_len_bound = job_name j name.result.now name.ensures;
    }

pub deepest_copy-requires : goal.deepest_copy-requires
deepest_copy-requires c =
    let a = c.args in
    let m = c.copy_entry-n in
    let name = c.last_name in
    let g = c.new_group in
    let j = c.requires.checkout in
    copies_fit j g.result g.ensures a.out.now m.new.out m.result name.result.now name.ensures c.requires.filed_in_bounds m.ensures m.auto.out

pub shape_of-out-then-deepest_copy-gt-MOST_NAMES : goal.shape_of-out-then-deepest_copy-gt-MOST_NAMES
shape_of-out-then-deepest_copy-gt-MOST_NAMES c = c.copy_entry-n.auto.out

pub returns-then-deepest_copy-gt-MOST_NAMES : goal.returns-then-deepest_copy-gt-MOST_NAMES
returns-then-deepest_copy-gt-MOST_NAMES c =
    let a = c.args in
    let m = c.copy_entry-n in
    let name = c.last_name in
    let g = c.new_group in record {
      prepared = (λ j. copies_too_deep j g.result g.ensures a.out.now m.new.out m.result name.result.now name.ensures c.requires.filed_in_bounds m.ensures c.deepest_copy.result c.deepest_copy.ensures (omega arith));
      copies_laid = (λ j. copies_lie j g.result g.ensures a.out.now m.new.out m.result name.result.now name.ensures c.requires.filed_in_bounds m.ensures);
    }

pub count-requires : goal.count-requires
count-requires c = c.requires.checkout.found.tree.sized.wide

pub overflow_add-count : goal.overflow_add-count
overflow_add-count c =
    let a = c.args in
    let m = c.copy_entry-n in
    let name = c.last_name in
    let g = c.new_group in
    let j = c.requires.checkout in
    omega (arith, copies_few j g.result g.ensures a.out.now m.new.out m.result name.result.now name.ensures c.requires.filed_in_bounds m.ensures, c.count.ensures, j.found.tree.sized.few_rows)

pub shape_of-out-then-count-n-gt-MOST_ROWS : goal.shape_of-out-then-count-n-gt-MOST_ROWS
shape_of-out-then-count-n-gt-MOST_ROWS c = c.copy_entry-n.auto.out

pub returns-then-count-n-gt-MOST_ROWS : goal.returns-then-count-n-gt-MOST_ROWS
returns-then-count-n-gt-MOST_ROWS c =
    let a = c.args in
    let m = c.copy_entry-n in
    let name = c.last_name in
    let g = c.new_group in
    let d = c.deepest_copy in record {
      prepared = (λ j. copies_too_many j g.result g.ensures a.out.now m.new.out m.result name.result.now name.ensures c.requires.filed_in_bounds m.ensures d.result d.ensures (omega arith) c.count.result c.count.ensures (omega arith));
      copies_laid = (λ j. copies_lie j g.result g.ensures a.out.now m.new.out m.result name.result.now name.ensures c.requires.filed_in_bounds m.ensures);
    }

pub shape_of-out : goal.shape_of-out
shape_of-out c = c.copy_entry-n.auto.out

pub returns : goal.returns
returns c =
    let a = c.args in
    let m = c.copy_entry-n in
    let name = c.last_name in
    let g = c.new_group in
    let d = c.deepest_copy in record {
      prepared = (λ j. copies_ready j g.result g.ensures a.out.now m.new.out m.result name.result.now name.ensures c.requires.filed_in_bounds m.ensures d.result d.ensures (omega arith) c.count.result c.count.ensures (omega arith) m.auto.out);
      copies_laid = (λ j. copies_lie j g.result g.ensures a.out.now m.new.out m.result name.result.now name.ensures c.requires.filed_in_bounds m.ensures);
    }
