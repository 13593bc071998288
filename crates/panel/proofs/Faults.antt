-- Steps and faults: what an answer tells that is no refusal.
use Rattle.panel.proofs.Names.{◌≡◌, ℕ, false, not, List, [], ◌∷◌, Ok, Err, Result, sym, refl, ap, ◌∙◌, true≢false, is_ok, AllByRecursion, cond-false, and_parts, not-false, leb-true, IsVertexCount, is_vertex_count, Refusal, and_then, Fault, unless}

-- none of the faults is found
abbrev pub NoneFound : List Fault → Type 0
NoneFound fs = AllByRecursion (λ f. f.found ≡ false) fs

pub unless_none : {X : Type 0} (fs : List Fault) (good : Result X Refusal) → NoneFound fs → unless fs good ≡ good
unless_none [] good none = refl
unless_none (f ∷ fs) good none = cond-false f.found _ _ none.0 ∙ unless_none fs good none.1

-- an answer that is no refusal, from one that was none
pub ok_ne_err : {X E : Type 0} {x : X} {e : E} → ◌≡◌ {A = Result X E} (Ok x) (Err e) → ⊥
ok_ne_err h = true≢false (ap is_ok h)

pub is_count : (n : ℕ) → not (is_vertex_count n) ≡ false → IsVertexCount n
is_count n h = let parts = and_parts _ _ (not-false _ h) in (leb-true _ _ parts.0, leb-true _ _ parts.1)

pub then_ok : {X Y E : Type 0} (r : Result X E) (x : X) (f : X → Result Y E) → r ≡ Ok x → and_then r f ≡ f x
then_ok r x f e = ap (λ (y : Result _ _). and_then y f) e

pub then_was : {X Y E : Type 0} (r : Result X E) (f : X → Result Y E) (y : Y) → and_then r f ≡ Ok y → (x : X) × (r ≡ Ok x) × (f x ≡ Ok y)
then_was (Ok x) f y e = (x, refl, e)
then_was (Err z) f y e = absurd (ok_ne_err (sym e))
