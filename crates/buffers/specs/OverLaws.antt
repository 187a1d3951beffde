-- Texts written over a buffer: by a copy, by a store, and one behind the other.
use Rattle.std.specs.Prelude.{◌≡◌, refl, List, [], ◌∷◌, ◌++◌, ℕ, ◌+◌, ◌≤◌, ◌<◌, length, set, take, drop}
use Rattle.std.proofs.Common.{sym, ◌∙◌, ap, append_assoc, arith, add-one, zero-add, length-append, drop-drop}
use Rattle.std.proofs.Math.Seq.{take-length, take-append_seam, drop-append-add, paste}
use Rattle.std.proofs.lemmas.List.{set_split}
use Rattle.buffers.specs.Text.{Text}
use Rattle.buffers.specs.Over.{over, Wrote}
use Rattle.buffers.specs.PasteLaws.{paste_join}

-- a copy of all bytes of a text
pub over_paste : (b t : List ℕ) (place : ℕ) → paste b place t (length t) ≡ over place t b
unfolding over
over_paste b t place = rw (take-length t) (append_assoc (take place b) t (drop (place + length t) b))

-- one byte is a store
pub over_byte : (b : List ℕ) (i x : ℕ) → i < length b → set b i x ≡ over i (x ∷ []) b
unfolding over
over_byte b i x h = rw add-one (set_split b i x h)

-- a text behind another that stands in front is both
pub over_more : (s t a : List ℕ) → over (length s) t (s ++ drop (length s) a) ≡ (s ++ t) ++ drop (length (s ++ t)) a
unfolding over
over_more s t a =
    rw (
      take-append_seam s (drop (length s) a),
      drop-append-add s (drop (length s) a) (length t),
      drop-drop (length t) (length s) a,
      length-append s t,
    ) (sym (append_assoc s t (drop (length s + length t) a)))

-- a text in front
pub over_front : (t a : List ℕ) → over 0 t a ≡ t ++ drop (length t) a
unfolding over
over_front t a = ap (λ (n : ℕ). t ++ drop n a) (zero-add (length t))

-- two texts written one behind the other are both written as one
over_both : (s t b : List ℕ) (at : ℕ) → at + length s + length t ≤ length b → over (at + length s) t (over at s b) ≡ over at (s ++ t) b
over_both s t b at h =
    sym (over_paste (over at s b) t (at + length s))
    ∙ ap (λ (c : List ℕ). paste c (at + length s) t (length t)) (sym (over_paste b s at))
    ∙ paste_join b s t at (length s) (length t) refl refl h
    ∙ ap (λ (n : ℕ). paste b at (s ++ t) n) (sym (length-append s t))
    ∙ over_paste b (s ++ t) at

-- ---- where it ends

-- a text copied
pub wrote_text : (t b : List ℕ) (at : ℕ) → Wrote t b at (paste b at t (length t)) (at + length t)
wrote_text t b at = record { ends = refl; holds = over_paste b t at }

-- a byte stored
pub wrote_byte : (x : ℕ) (b : List ℕ) (at : ℕ) → at < length b → Wrote (x ∷ []) b at (set b at x) (at + 1)
wrote_byte x b at h = record { ends = refl; holds = over_byte b at x h }

-- nothing in front
pub wrote_nothing : (b : List ℕ) → Wrote [] b 0 b 0
wrote_nothing b = record { ends = refl; holds = sym (over_front [] b) }

-- what is written behind what was written
pub wrote_both : {s t : Text} {b c d : List ℕ} {at m r : ℕ} → Wrote s b at c m → Wrote t c m d r → r ≤ length b → Wrote (s ++ t) b at d r
wrote_both {s} {t} {b} {at = at} v w h =
    let e : length (s ++ t) ≡ length s + length t = length-append s t in
    record {
      ends = omega (arith, v.ends, w.ends);
      holds = w.holds ∙ rw (v.ends, v.holds) (over_both s t b at (omega (arith, v.ends, w.ends)));
    }
