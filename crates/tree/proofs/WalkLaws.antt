-- The walks in document 01's words, name by name from the top, are the walks of `Walk`.
use Rattle.std.specs.Prelude.{◌≡◌, refl, List, [], ◌∷◌, ◌++◌, true}
use Rattle.std.proofs.Common.{sym, ◌∙◌, ap}
use Rattle.syntax.specs.Path.{Name, Path, root, ◌▹◌, parent, extended}
use Rattle.tree.specs.declared.Cause.TheVariants.{NotDirectory, Access}
use Rattle.tree.specs.Result.{Result, refused, done, ◌>>=◌, ◌>>◌, require}
use Rattle.tree.proofs.ResultLaws.{then_then, then_bind, bind_bind}
use Rattle.tree.specs.Forest.{Place}
use Rattle.tree.specs.Node.{is_directory}
use Rattle.tree.specs.Walk.{Judge, look, enter, walk, parent_walk, literal_walk, literal_parent_walk}

-- the rest of a walk: nothing, or on from a directory
onward : {A : Type 0} → Judge A → List Name → Place A → Result (Place A)
onward j [] d = done d
onward j (n ∷ ns) d = do
  require (is_directory (j.kind d.here)) NotDirectory
  literal_walk j d (n ∷ ns)

bind_itself : {A : Type 0} (a : Result A) (f : A → Result A) → ((d : A) → f d ≡ done d) → (a >>= f) ≡ a
unfolding ◌>>=◌
bind_itself (refused why) f e = refl
bind_itself (done d) f e = e d

-- two binds of one outcome agree where what follows does
bind_same : {A B : Type 0} (a : Result A) (f g : A → Result B) → ((d : A) → f d ≡ g d) → (a >>= f) ≡ (a >>= g)
unfolding ◌>>=◌
bind_same (refused why) f g e = refl
bind_same (done d) f g e = e d

literal_step : {A : Type 0} (j : Judge A) (d : Place A) (n : Name) (ns : List Name)
    → literal_walk j d (n ∷ ns) ≡ (require (j.passes d.here) Access >> (look n d.below >>= onward j ns))
unfolding literal_walk onward
literal_step j d n [] = rw (bind_itself (look n d.below) (onward j []) (λ e. refl))
literal_step j d n (m ∷ ns) = refl

onward_step : {A : Type 0} (j : Judge A) (n : Name) (ns : List Name) (a : Result (Place A))
    → ((a >>= λ d. enter j d.here >> look n d.below) >>= onward j ns) ≡ (a >>= onward j (n ∷ ns))
unfolding ◌>>=◌ onward enter
onward_step j n ns (refused k) = refl
onward_step j n ns (done d) =
    simp (literal_step j d n ns, then_bind, then_then)

onward_walk : {A : Type 0} (j : Judge A) (t : Place A) (q : Path) (ns : List Name)
    → walk j t (extended q ns) ≡ (walk j t q >>= onward j ns)
unfolding extended walk onward
onward_walk j t q [] = sym (bind_itself (walk j t q) (onward j []) (λ e. refl))
onward_walk j t q (n ∷ ns) = onward_walk j t (q ▹ n) ns ∙ onward_step j n ns (walk j t q)

-- from a directory, the walk along the names is document 01's
pub walk_is_literal : {A : Type 0} (j : Judge A) (t : Place A) → is_directory (j.kind t.here) ≡ true
    → (ns : List Name) → walk j t (extended root ns) ≡ literal_walk j t ns
unfolding walk extended onward ◌>>=◌ ◌>>◌ require literal_walk
walk_is_literal j t e [] = refl
walk_is_literal j t e (n ∷ ns) = onward_walk j t root (n ∷ ns) ∙ rw e

-- into the last directory of a parent walk
enter_last : {A : Type 0} → Judge A → Place A → Result (Place A)
enter_last j d = enter j d.here >> done d

-- the rest of a parent walk: on from a directory
onward_parent : {A : Type 0} → Judge A → List Name → Place A → Result (Place A)
onward_parent j ns d = require (is_directory (j.kind d.here)) NotDirectory >> literal_parent_walk j d ns

-- the first of several names
parent_step : {A : Type 0} (j : Judge A) (d : Place A) (m : Name) (p : List Name) (n : Name)
    → literal_parent_walk j d (m ∷ (p ++ (n ∷ []))) ≡ (require (j.passes d.here) Access >> (look m d.below >>= onward_parent j (p ++ (n ∷ []))))
unfolding literal_parent_walk onward_parent
parent_step j d m [] n = refl
parent_step j d m (q ∷ p) n = refl

onward_last : {A : Type 0} (j : Judge A) (ns : List Name) (n : Name) (d : Place A)
    → (onward j ns d >>= enter_last j) ≡ onward_parent j (ns ++ (n ∷ [])) d
unfolding onward onward_parent ◌>>=◌ enter_last enter literal_parent_walk
onward_last j [] n d = then_then (require (is_directory (j.kind d.here)) NotDirectory) (require (j.passes d.here) Access) (done d)
onward_last j (m ∷ p) n d =
    let i = bind_same (look m d.below) (λ e. onward j p e >>= enter_last j) (onward_parent j (p ++ (n ∷ []))) (onward_last j p n) in
    rw (literal_step j d m p, parent_step j d m p n) (simp (then_bind, bind_bind, i))

-- and the walk to a parent is document 01's
pub parent_walk_is_literal : {A : Type 0} (j : Judge A) (t : Place A) → is_directory (j.kind t.here) ≡ true
    → (ns : List Name) (n : Name) → parent_walk j t (extended root ns ▹ n) ≡ literal_parent_walk j t (ns ++ (n ∷ []))
unfolding parent_walk parent enter_last onward_parent walk ◌>>=◌ ◌>>◌ require
parent_walk_is_literal j t e ns n =
    ap (λ a. a >>= enter_last j) (onward_walk j t root ns) ∙ onward_last j ns n t ∙ rw e
