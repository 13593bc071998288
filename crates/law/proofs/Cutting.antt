-- The chain of an accepted cut.
use Rattle.std.proofs.Common.{◌≡◌, ℕ, ◌+◌, ◌*◌, ◌≤◌, ℤ, pos, ◌+ℤ◌, ◌-ℤ◌, ◌*ℤ◌, nat_abs, ap, le_refl, mul-le-mul, arith, true, List, length, Ok, sym, ◌∙◌, suc, ◌-◌, ◌<◌, [], ◌∷◌, map, get_or, refl, subst}
use borrow.Author.Differences.{abs_is}
use borrow.Author.Differences as U
use Rattle.std.proofs.lemmas.Int.{ints, unsigned_abs-mul}
use Rattle.words.specs.Order.{low_first}
use Rattle.kinds.specs.Kind.{KindMeaning}
use Rattle.pack.specs.Packing.{ReadingMeaning}
use Rattle.range.specs.Scale.{Scale, IsRange, quanta, width}
use Rattle.panel.specs.Panel.{panel_of, all_inside, Panel}
use Rattle.panel.specs.Layout.{file_of}
use Rattle.panel.specs.Judging.{judged}
use Rattle.panel.proofs.Sound.{every_file_read_back, stores-the-file}
use Rattle.law.specs.Calls.{Load, meaning_of, kept_of, Cut}
use Rattle.law.specs.Law.{Stored, Steps, IsChain, Follows, Meant, WellDrawn, step_on, stroke_from, stroke_to, m_of_stroke, scale_on, marks_of, must_keep}
use Rattle.kinds.specs.Vertex.{Vertex, at, told, all_close_by}
use Rattle.seam.specs.Seam.{ones}
use Rattle.panel.specs.Panel.{place_at, vertex, placed}
use Rattle.std.specs.List.{AllByRecursion}
use Rattle.std.proofs.ByRecursion.{All-map, All-get_or}
use Rattle.law.specs.Program.{Chain, steps, through as through-all}
use Rattle.law.proofs.Strokes.{ones-one, ones-grows, length-kept, length-marks, marks-near, stroke, never-falls, stands, count-strokes, last-counts, some-strokes, lies_along}
use Rattle.law.proofs.Vertices.{length-placed, at-placed, vertex-tells, all-kept, all-steps}
use Rattle.panel.proofs.Accepted.{accepted as known}
use lib.Ieee.{nan}
use Rattle.range.proofs.Ranges.{place-near}
use Rattle.panel.proofs.Axes.{place-told, inside-told}

abs-plus : (a b : ℤ) → nat_abs (a +ℤ b) ≤ nat_abs a + nat_abs b
abs-plus a b = omega (arith, ints, abs_is a, abs_is b, abs_is (a +ℤ b))

-- m a = m x + 16 m b where a = x + 16 b
spread : (m : ℕ) (a x b : ℤ) → a ≡ x +ℤ pos 16 *ℤ b → pos m *ℤ a ≡ pos m *ℤ x +ℤ pos 16 *ℤ (pos m *ℤ b)
spread m a x b e =
    let h : U.up a + U.down x + 16 * U.down b ≡ U.down a + U.up x + 16 * U.up b = omega (arith, ints) in
    let t : m * (U.up a + U.down x + 16 * U.down b) ≡ m * (U.down a + U.up x + 16 * U.up b) = ap (λ (n : ℕ). m * n) h in
    omega (arith, ints)

together : (k : ℕ) (d : ℤ) → pos (16 * k) *ℤ d ≡ pos 16 *ℤ (pos k *ℤ d)
together k d = omega (arith, ints)

joined : (s u b e f : ℤ) → s ≡ u +ℤ pos 16 *ℤ b → f ≡ pos 16 *ℤ e → s -ℤ f ≡ u +ℤ pos 16 *ℤ (b -ℤ e)
joined s u b e f p q = omega (arith, ints)

apart : (m k : ℕ) (v P A d : ℤ) →
    pos m *ℤ (v -ℤ pos 16 *ℤ A) -ℤ pos (16 * k) *ℤ d ≡ pos m *ℤ (v -ℤ pos 16 *ℤ P) +ℤ pos 16 *ℤ (pos m *ℤ (P -ℤ A) -ℤ pos k *ℤ d)
apart m k v P A d =
    let sum : v -ℤ pos 16 *ℤ A ≡ (v -ℤ pos 16 *ℤ P) +ℤ pos 16 *ℤ (P -ℤ A) = omega (arith, ints) in
    joined (pos m *ℤ (v -ℤ pos 16 *ℤ A)) (pos m *ℤ (v -ℤ pos 16 *ℤ P)) (pos m *ℤ (P -ℤ A)) (pos k *ℤ d) (pos (16 * k) *ℤ d) (spread m (v -ℤ pos 16 *ℤ A) (v -ℤ pos 16 *ℤ P) (P -ℤ A) sum) (together k d)

pub beside : (M D m t k : ℕ) (v P A d : ℤ) → 2 * M * nat_abs (v -ℤ pos 16 *ℤ P) ≤ D + 16 * M → nat_abs (pos m *ℤ (P -ℤ A) -ℤ pos k *ℤ d) ≤ t * m →
    2 * M * nat_abs (pos m *ℤ (v -ℤ pos 16 *ℤ A) -ℤ pos (16 * k) *ℤ d) ≤ m * (D + 16 * M + 32 * M * t)
beside M D m t k v P A d h l =
    let x : ℤ = v -ℤ pos 16 *ℤ P in
    let y : ℤ = pos m *ℤ (P -ℤ A) -ℤ pos k *ℤ d in
    let w : ℤ = pos m *ℤ (v -ℤ pos 16 *ℤ A) -ℤ pos (16 * k) *ℤ d in
    let a : nat_abs w ≤ m * nat_abs x + 16 * nat_abs y =
    omega (arith, ap nat_abs (apart m k v P A d), abs-plus (pos m *ℤ x) (pos 16 *ℤ y), unsigned_abs-mul (pos m) x, unsigned_abs-mul (pos 16) y) in
    let b : M * nat_abs w ≤ M * (m * nat_abs x + 16 * nat_abs y) = mul-le-mul (le_refl M) a in
    let c : m * (2 * M * nat_abs x) ≤ m * (D + 16 * M) = mul-le-mul (le_refl m) h in
    let e : M * nat_abs y ≤ M * (t * m) = mul-le-mul (le_refl M) l in
    omega arith

module _ {P : Type 0} (k : KindMeaning P) (l : Load) (gs : List Scale) (design : List P) (s : Stored k l gs design) where
  pub all_in : all_inside k gs design ≡ true
  all_in = (stores-the-file k l.predictor s.packing design gs s.room s.before s.size s.after s.stores).1

  pub trip : meaning_of l k.axes 4096 ≡ Ok (panel_of k gs design)
  trip =
      let f = stores-the-file k l.predictor s.packing design gs s.room s.before s.size s.after s.stores in
      let enough : k.axes ≤ length gs = omega (arith, k.few_axes, s.three) in
      ap (λ (bs : List ℕ). judged low_first l.predictor l.packing k.axes 4096 bs) (sym s.file ∙ f.2)
      ∙ ap (λ (q : ReadingMeaning). judged low_first l.predictor q k.axes 4096 (file_of low_first l.predictor s.packing (panel_of k gs design))) (sym s.same)
      ∙ every_file_read_back k low_first l.predictor s.packing design gs 4096 s.ranges f.0 f.0.1 enough f.1

through-is : {P : Type 0} (k : KindMeaning P) (ps : List P) → 1 ≤ length ps → (through-all k ps).from ∷ (through-all k ps).strokes ≡ map (steps k) ps
through-is k [] h = absurd (omega arith)
through-is k (p ∷ ps) h = refl

module _ {P : Type 0} (k : KindMeaning P) (w : Cut) (x : Panel) (meant : Meant k w x) where
  many : 2 ≤ x.count
  many = (known low_first w.panel.predictor w.panel.packing k.axes 4096 w.panel.file x meant).is.counted.0

  sized : length x.axes ≡ k.axes
  sized = (known low_first w.panel.predictor w.panel.packing k.axes 4096 w.panel.file x meant).is.sized

  some-kept : 1 ≤ length (must_keep k w.tolerance x)
  unfolding must_keep
  some-kept =
      let ms = marks_of k w.tolerance x in
      let size : length ms ≡ x.count = length-marks k w.tolerance x many in
      omega (arith, length-kept ms (placed k x) (omega (arith, length-placed k x)), ones-grows 1 (length ms) ms (omega (arith, many)), ones-one 0 ms (marks-near k w.tolerance x many).first)

  -- the chain that the cut draws
  abbrev pub chain_of : Chain
  chain_of = through-all k (must_keep k w.tolerance x)

  is : chain_of.from ∷ chain_of.strokes ≡ map (steps k) (must_keep k w.tolerance x)
  is = through-is k (must_keep k w.tolerance x) some-kept

  -- a stored coordinate lies within half a quantum and half a step of where it is placed
  close : (gs : List Scale) (design : List P) (s : Stored k w.panel gs design) → x ≡ panel_of k gs design → (i j : ℕ) → i < length design → j < k.axes →
      2 * quanta (scale_on gs j) * nat_abs (at (told k design) i j -ℤ pos 16 *ℤ at (told k (placed k x)) i j) ≤ width (scale_on gs j) + 16 * quanta (scale_on gs j)
  close gs design s same i j h l =
      let count : x.count ≡ length design = ap (λ (y : Panel). y.count) same in
      let placed_at : at (told k (placed k x)) i j ≡ place_at (panel_of k gs design).axes j i =
      ap (λ (v : Vertex). v j) (at-placed k x i (omega arith)) ∙ vertex-tells k x sized i j ∙ ap (λ (y : Panel). place_at y.axes j i) same in
      let g : Scale = record { bits = 0; lower = nan; upper = nan } in
      let is : IsRange (scale_on gs j) = All-get_or IsRange gs j g (omega (arith, k.few_axes, s.three)) s.ranges in
      rw (placed_at, place-told k gs design s.three j l g i h) (place-near (scale_on gs j) is (at (told k design) i j) (inside-told k gs design s.three j l g i h (all_in k w.panel gs design s)))

  follows : (gs : List Scale) (design : List P) → Stored k w.panel gs design → Follows k w.tolerance gs design chain_of
  follows gs design s =
      let back = trip k w.panel gs design s in
      let same : x ≡ panel_of k gs design = cc in
      let count : x.count ≡ length design = ap (λ (y : Panel). y.count) same in
      let lies = lies_along k w.tolerance x many chain_of is in
      record {
        stroke = stroke k w.tolerance x many;
        real = λ i h. (lies i (omega arith)).0;
        near = λ i h.
            let A : List ℤ = stroke_from chain_of (stroke k w.tolerance x many i) in
            let B : List ℤ = stroke_to chain_of (stroke k w.tolerance x many i) in
            let off = (lies i (omega arith)).1 in
            record {
              along = off.along;
              short = off.short;
              off = λ j l.
                  beside (quanta (scale_on gs j)) (width (scale_on gs j)) (m_of_stroke A B) w.tolerance off.along (at (told k design) i j) (at (told k (placed k x)) i j) (step_on A j) (step_on B j -ℤ step_on A j)
                  (close gs design s same i j h l) (off.off j (omega (arith, k.few_axes)));
            };
        onward = λ i j h l. never-falls k w.tolerance x many i j h;
      }

  ending : stroke_to chain_of (length chain_of.strokes - 1) ≡ steps k (vertex k x (x.count - 1))
  ending =
      let n : ℕ = x.count - 1 in
      let some = some-strokes k w.tolerance x many chain_of is in
      let number : suc (length chain_of.strokes - 1) ≡ ones n (marks_of k w.tolerance x) = omega (arith, count-strokes k w.tolerance x many chain_of is, last-counts k w.tolerance x many chain_of is) in
      ap (λ (c : ℕ). get_or (chain_of.from ∷ chain_of.strokes) c []) number ∙ stands k w.tolerance x many chain_of is n (omega (arith, many)) (marks-near k w.tolerance x many).last

  -- its steps fit a program's numbers, where the split found each vertex close by
  pub whole : all_close_by (told k (placed k x)) ≡ true → IsChain k.axes chain_of
  unfolding must_keep
  whole near =
      let all : AllByRecursion (Steps k.axes) (chain_of.from ∷ chain_of.strokes) =
      subst (AllByRecursion (Steps k.axes)) (sym is) (All-map (Steps k.axes) (steps k) (kept_of (marks_of k w.tolerance x) (placed k x))
      (all-kept (λ p. Steps k.axes (steps k p)) (marks_of k w.tolerance x) (placed k x) (all-steps k (placed k x) near))) in
      record { travel = all.0; some = some-strokes k w.tolerance x many chain_of is; each = all.1 }

  pub well-drawn : WellDrawn k w chain_of
  well-drawn = record {
    panel = x;
    meant = meant;
    through = is;
    begins = stands k w.tolerance x many chain_of is 0 (omega (arith, many)) (marks-near k w.tolerance x many).first;
    ends = ending;
    follows = follows;
  }
