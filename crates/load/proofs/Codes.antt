-- Codes one after another, from what a packing reads. Assumes nothing.
use Rattle.std.proofs.Common.{◌≡◌, ℕ, ◌+◌, ◌<◌, ◌≤◌, Bool, ◌&&◌, List, [], ◌∷◌, ◌++◌, length, get_or, take, drop, set, ℤ, pos, sym, ap, ◌∙◌, ap₂, append_assoc, arith, to_z, of_z, w32, SFits}
use Rattle.std.proofs.lemmas.Int.{to_z-of_z}
use Rattle.std.proofs.lemmas.List.{drop_more, drop_all, take_more_set, drop-set-lt, take-append-drop}
use Rattle.kinds.specs.Kind.{KindMeaning}
use Rattle.predict.specs.declared.Before.{Before}
use Rattle.predict.specs.Predictor.{PredictorMeaning}
use Rattle.predict.specs.Residues.{after, restored, values_from}
use Rattle.range.specs.Scale.{Scale, is_code, place_in}
use Rattle.panel.specs.Judging.{all_codes}
use Rattle.load.specs.Filling.{moved, fill_on}

-- the codes that are left
module _ (m : PredictorMeaning) (b : Before) (rs : List ℤ) (i : ℕ) where
  pub values_past : length rs ≤ i → values_from m i b (drop i rs) ≡ []
  unfolding values_from
  values_past done = ap (values_from m i b) (drop_all i rs done)

  pub values_next : (c : ℤ) (b' : Before) → i < length rs → c ≡ restored m i b (get_or rs i (pos 0)) → b' ≡ after b c →
      values_from m i b (drop i rs) ≡ c ∷ values_from m (i + 1) b' (drop (i + 1) rs)
  unfolding values_from
  values_next c b' lt ec eb =
      ap (values_from m i b) (drop_more rs i (pos 0) lt)
      ∙ ap (λ x. x ∷ values_from m (i + 1) (after b x) (drop (i + 1) rs)) (sym ec)
      ∙ ap (λ x. c ∷ values_from m (i + 1) x (drop (i + 1) rs)) (sym eb)

-- one of them before the others, by the answer of a test of it
pub codes_next : (s : Scale) (c : ℤ) (cs all : List ℤ) → all ≡ c ∷ cs → SFits w32 c → (b : Bool) → b ≡ is_code s (to_z w32 (of_z w32 c)) → all_codes s all ≡ (b && all_codes s cs)
unfolding all_codes
codes_next s c cs all step fits b h = ap (all_codes s) step ∙ ap (λ x. x && all_codes s cs) (sym (h ∙ ap (is_code s) (to_z-of_z w32 c fits)))

-- points placed one after another
module _ {P : Type 0} (k : KindMeaning P) (a : ℕ) (s : Scale) (i : ℕ) (points all : List P) where
  pub place_past : (cs : List ℤ) → cs ≡ [] → take i points ++ fill_on k a s cs (drop i points) ≡ all → points ≡ all
  unfolding fill_on
  place_past cs done inv = sym (take-append-drop i points) ∙ sym (ap (λ (us : List ℤ). take i points ++ fill_on k a s us (drop i points)) done) ∙ inv

  pub place_next : (c : ℤ) (cs left : List ℤ) (d p : P) (v : ℤ) → left ≡ c ∷ cs → i < length points → v ≡ place_in s c → p ≡ moved k a v (get_or points i d) →
      take i points ++ fill_on k a s left (drop i points) ≡ all →
      take (i + 1) (set points i p) ++ fill_on k a s cs (drop (i + 1) (set points i p)) ≡ all
  unfolding fill_on
  place_next c cs left d p v step room ev ep inv =
      let x : P = get_or points i d in
      let rest : List P = drop (i + 1) points in
      let here : drop i points ≡ x ∷ rest = drop_more points i d room in
      ap₂ (λ (us ws : List P). us ++ fill_on k a s cs ws) (take_more_set points i p room) (drop-set-lt (i + 1) points i p (omega arith))
      ∙ append_assoc (take i points) (p ∷ []) (fill_on k a s cs rest)
      ∙ ap (λ (y : P). take i points ++ (y ∷ fill_on k a s cs rest)) (ep ∙ ap (λ (z : ℤ). moved k a z x) ev)
      ∙ sym (ap₂ (λ (us : List ℤ) (ws : List P). take i points ++ fill_on k a s us ws) step here)
      ∙ inv
