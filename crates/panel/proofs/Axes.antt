-- The axes of a panel one after another, and the points on each: their codes, what is stored of them, and their pieces.
use Rattle.panel.proofs.Names.{◌≡◌, ℕ, ◌+◌, ◌<◌, ◌≤◌, true, List, ◌++◌, length, get_or, drop, ℤ, sym, ap, ◌∙◌, append_assoc, arith, length-append, Bool, [], ◌∷◌, take, set, append-nil, zero, suc, pos, refl, flat_map, enumerate_from, list_all, drop_all, get_or-map, drop_more, take_all, take_more_set, length-enumerate_from, get_or-enumerate_from, Order, overwritten, KindMeaning, PredictorMeaning, residues, after, stored, residues_from, PackingMeaning, Scale, in_words, inside, code_in, piece_bytes, end_piece, range_piece, length_piece, axis_bytes, rest_bytes, stored_axis, file_of, Axis, Panel, codes_on, inside_on, inside_from, axes_from, true_from_ne_false, true≢false, get_or_default, get_or-take, length-take-le, place_in, panel_of, all_inside}
use Rattle.panel.proofs.Overwriting.{over-more}
use Rattle.panel.proofs.Sound.{range_sized, length_sized, length-axes}
use Rattle.std.proofs.lemmas.List.Folds.{list_all_at}
use Rattle.predict.specs.declared.Before.{Before}
use Rattle.kinds.specs.Vertex.{at, told}
use Rattle.panel.specs.Panel.{place_at}

-- what is left of a list from an item on
pub drop_is : {X : Type 0} (xs : List X) (i : ℕ) (x : X) → i < length xs → x ≡ get_or xs i x → drop i xs ≡ x ∷ drop (i + 1) xs
drop_is xs i x lt is = drop_more xs i x lt ∙ ap (λ y. y ∷ drop (i + 1) xs) (sym is)

-- of items that all pass, one
pub all_at : {X : Type 0} (f : X → Bool) (xs : List X) (i : ℕ) (d : X) → i < length xs → list_all f xs ≡ true → f (get_or xs i d) ≡ true
all_at f xs i d lt all = true_from_ne_false _ (λ no. true≢false (sym all ∙ list_all_at f xs i d lt no))

module _ {P : Type 0} (k : KindMeaning P) (a : ℕ) (s : Scale) where
  -- a point of those that lie in the range lies in it
  pub inside_at : (ps : List P) (i : ℕ) (d : P) → i < length ps → inside_on k a s ps ≡ true → inside s (k.coordinate (get_or ps i d) a) ≡ true
  unfolding inside_on
  inside_at ps i d lt all = all_at (λ p. inside s (k.coordinate p a)) ps i d lt all

  module _ (m : PredictorMeaning) (ps : List P) (i : ℕ) (b : Before) (work all : List ℤ) (inv : take i work ++ residues_from m i b (codes_on k a s (drop i ps)) ≡ all) where
    pub fill_end : length ps ≤ i → length work ≤ i → work ≡ all
    unfolding codes_on residues_from
    fill_end done most =
        sym (take_all i work most) ∙ sym (append-nil (take i work))
        ∙ sym (ap (λ (l : List P). take i work ++ residues_from m i b (codes_on k a s l)) (drop_all i ps done)) ∙ inv

    pub fill_step : (x : P) (next : Before) (c r : ℤ) → i < length ps → x ≡ get_or ps i x → i < length work → c ≡ code_in s (k.coordinate x a) → r ≡ stored m i b c → next ≡ after b c →
        take (i + 1) (set work i r) ++ residues_from m (i + 1) next (codes_on k a s (drop (i + 1) ps)) ≡ all
    unfolding codes_on residues_from
    fill_step x next c r lt is room ec er en =
        let cs : List ℤ = codes_on k a s (drop (i + 1) ps) in
        let rest : List ℤ = residues_from m (i + 1) (after b c) cs in
        let front : codes_on k a s (drop i ps) ≡ c ∷ cs = ap (codes_on k a s) (drop_is ps i x lt is) ∙ ap (λ (z : ℤ). z ∷ cs) (sym ec) in
        ap (λ (y : Before). take (i + 1) (set work i r) ++ residues_from m (i + 1) y cs) en
        ∙ ap (λ (l : List ℤ). l ++ rest) (take_more_set work i r room) ∙ append_assoc (take i work) (r ∷ []) rest
        ∙ ap (λ (y : ℤ). take i work ++ (y ∷ rest)) er
        ∙ sym (ap (λ (l : List ℤ). take i work ++ residues_from m i b l) front) ∙ inv

pub length_stored : (o : Order) (q : PackingMeaning) (s : Scale) (list : List ℤ) → length (stored_axis o q s list) ≡ 15 + q.size list
length_stored o q s list =
    let R : List ℕ = piece_bytes (range_piece o) (in_words s) in
    let V : List ℕ = piece_bytes (length_piece o) (length (q.writes o list)) in
    omega (arith, length-append R (V ++ q.writes o list), length-append V (q.writes o list), range_sized o (in_words s), length_sized o (length (q.writes o list)), q.sized o list)

module _ (o : Order) (m : PredictorMeaning) (q : PackingMeaning) where
  pub length_file : (x : Panel) → length (file_of o m q x) ≡ 8 + length (rest_bytes o m q x.axes)
  unfolding file_of
  length_file x = omega (arith, o.four x.count, length-append (o.writes x.count) (rest_bytes o m q x.axes))

  module _ {P : Type 0} (k : KindMeaning P) (ps : List P) (gs : List Scale) (i : ℕ) where
    -- the pieces from axis i on
    abbrev pub left : List ℕ
    left = rest_bytes o m q (axes_from k ps i (drop i gs))

    -- past the last range, E is left
    pub rest_end : length gs ≤ i → left ≡ piece_bytes end_piece tt
    unfolding axes_from
    rest_end done = ap (λ l. rest_bytes o m q (axes_from k ps i l)) (drop_all i gs done)

  -- the range at i, and what is stored of its axis
  module _ {P : Type 0} (k : KindMeaning P) (ps : List P) (gs : List Scale) (i : ℕ) (g : Scale) (work : List ℤ) (lt : i < length gs) (is : g ≡ get_or gs i g) (e : work ≡ residues m (codes_on k i g ps)) where
    pub rest_next : left k ps gs i ≡ stored_axis o q g work ++ left k ps gs (i + 1)
    unfolding axes_from axis_bytes
    rest_next =
        ap (λ l. rest_bytes o m q (axes_from k ps i l)) (drop_is gs i g lt is)
        ∙ append_assoc (stored_axis o q g (residues m (codes_on k i g ps))) (flat_map (axis_bytes o m q) (axes_from k ps (i + 1) (drop (i + 1) gs))) (piece_bytes end_piece tt)
        ∙ ap (λ list. stored_axis o q g list ++ left k ps gs (i + 1)) (sym e)

    pub length_next : length (left k ps gs i) ≡ 15 + q.size work + length (left k ps gs (i + 1))
    length_next = ap length rest_next ∙ length-append (stored_axis o q g work) _ ∙ ap (λ n. n + length (left k ps gs (i + 1))) (length_stored o q g work)

    -- it is written, and what is left behind it
    pub write_next : (f now : List ℕ) (at next : ℕ) → at + length (left k ps gs i) ≤ length f → now ≡ overwritten f at (stored_axis o q g work) → next ≡ at + 10 + 5 + q.size work →
        overwritten now next (left k ps gs (i + 1)) ≡ overwritten f at (left k ps gs i)
    write_next f now at next room w n =
        let long = length_stored o q g work in
        ap (λ l. overwritten l next (left k ps gs (i + 1))) w
        ∙ over-more f at (stored_axis o q g work) (omega (arith, long, length_next)) next (left k ps gs (i + 1)) (omega (arith, long)) ∙ sym (ap (overwritten f at) rest_next)

module _ {P : Type 0} (k : KindMeaning P) (ps : List P) (gs : List Scale) (j : ℕ) (g : Scale) (lt : j < length gs) where
  counted : get_or (enumerate_from 0 gs) j (0, g) ≡ (j, get_or gs j g)
  counted = let n : 0 + j ≡ j = omega arith in get_or-enumerate_from 0 gs j (0, g) lt ∙ ap (λ a. (a, get_or gs j g)) n

  from_start : j < length (enumerate_from 0 gs)
  from_start = omega (arith, length-enumerate_from 0 gs)

  -- axis j has the codes of the points by range j
  abbrev on : ℕ × Scale → Axis
  on y = record { scale = y.1; codes = codes_on k y.0 y.1 ps }

  axis_is : (x : Axis) → get_or (axes_from k ps 0 gs) j x ≡ on (j, get_or gs j g)
  unfolding axes_from
  axis_is x = get_or-map on (enumerate_from 0 gs) j (0, g) x from_start ∙ ap on counted

  -- the points lie in the range of each axis
  pub inside_each : g ≡ get_or gs j g → inside_from k ps 0 gs ≡ true → inside_on k j g ps ≡ true
  unfolding inside_from
  inside_each is all =
      ap (λ r. inside_on k j r ps) is ∙ sym (ap (λ y. inside_on k y.0 y.1 ps) counted)
      ∙ all_at (λ y. inside_on k y.0 y.1 ps) (enumerate_from 0 gs) j (0, g) from_start all

-- the place of vertex i on axis j is that of its code there
place-on : (xs : List Axis) (j i : ℕ) (x : Axis) → j < length xs → place_at xs j i ≡ place_in (get_or xs j x).scale (get_or (get_or xs j x).codes i (pos 0))
unfolding place_at
place-on [] j i x h = absurd (omega arith)
place-on (y ∷ xs) zero i x h = refl
place-on (y ∷ xs) (suc j) i x h = place-on xs j i x (omega arith)

module _ {P : Type 0} (k : KindMeaning P) where
  -- a point of a list
  point : (ps : List P) (i : ℕ) → i < length ps → P
  point [] i lt = absurd (omega arith)
  point (p ∷ ps) i lt = p

  -- the whole panel, at a vertex i and an axis j of the kind
  module _ (gs : List Scale) (ps : List P) (three : length gs ≡ 3) (j : ℕ) (on : j < k.axes) (g : Scale) (i : ℕ) (lt : i < length ps) where
    used : j < length (take k.axes gs)
    used = omega (arith, length-take-le k.axes gs (omega (arith, k.few_axes)))

    tells : at (told k ps) i j ≡ k.coordinate (get_or ps i (point ps i lt)) j
    tells = ap (λ v. v j) (get_or-map k.coordinate ps i (point ps i lt) _ lt)

    -- its place is that of its coordinate's code
    pub place-told : place_at (panel_of k gs ps).axes j i ≡ place_in (get_or gs j g) (code_in (get_or gs j g) (at (told k ps) i j))
    unfolding codes_on
    place-told =
        let x : Axis = record { scale = g; codes = [] } in
        let s : Scale = get_or gs j g in
        let axis : get_or (panel_of k gs ps).axes j x ≡ record { scale = s; codes = codes_on k j s ps } =
        axis_is k ps (take k.axes gs) j g used x ∙ ap (λ h. record { scale = h; codes = codes_on k j h ps }) (get_or-take k.axes gs j g on) in
        place-on (panel_of k gs ps).axes j i x (omega (arith, length-axes k ps 0 (take k.axes gs), used))
        ∙ ap (λ (y : Axis). place_in y.scale (get_or y.codes i (pos 0))) axis
        ∙ ap (place_in s) (get_or-map (λ p. code_in s (k.coordinate p j)) ps i (point ps i lt) (pos 0) lt ∙ ap (code_in s) (sym tells))

    -- its coordinate lies in the range
    pub inside-told : all_inside k gs ps ≡ true → inside (get_or gs j g) (at (told k ps) i j) ≡ true
    inside-told h =
        let s : Scale = get_or gs j g in
        let is : s ≡ get_or (take k.axes gs) j s = sym (get_or-take k.axes gs j s on ∙ get_or_default gs j s g (omega (arith, k.few_axes))) in
        ap (inside s) tells ∙ inside_at k j s ps i (point ps i lt) lt (inside_each k ps (take k.axes gs) j s used is h)
