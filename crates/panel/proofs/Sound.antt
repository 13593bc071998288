-- A panel that is written is read back, and so are design points that lie in their ranges.
use Rattle.panel.proofs.Names.{◌≡◌, ℕ, ◌+◌, ◌^◌, ◌<◌, ◌≤◌, List, [], ◌∷◌, ◌++◌, length, take, Ok, not, refl, ap, ◌∙◌, ap₂, append_assoc, arith, length-append, suc, false, ℤ, subst, true, Result, sym, take_at, drop_at, length-take-le, length-map, le-ltb, eq-eqb, le-leb, and_from, and_parts, Order, word_at, Words, Rest, Layout, Header, piece_bytes, header_piece, range_piece, length_piece, end_piece, axis_bytes, file_of, piece_faults, header_faults, range_faults, cut_short, all_codes, code_faults, taken, bytes_taken, scale_at, body_at, Opened, opened, coded, with_axis, head_at, axis_at, axes_at, panel_at, judged, binary32, of_bits, to_bits, lt_z, ◌==◌, flat_map, AllByRecursion, enumerate_from, result_map_both, Word, Why, refusal_at, and_then, IsVertexCount, PredictorMeaning, start, residues, values, start-words, values-back, residues-words, length-residues, PackingMeaning, Scale, IsRange, scale_from, in_words, good_end, units_of, stays, code-within, Axis, Panel, inside_on, codes_on, axes_from, inside_from, panel_of, length-enumerate_from, KindMeaning, Refusal, of_bits-to_bits, to_bits-lt, is_true as holds, T_from_true as passes}
use Rattle.panel.proofs.Faults.{unless_none, then_ok}
use Rattle.panel.proofs.Accepted.{IsAxis, IsPanel, codes_words}
use Rattle.std.proofs.lemmas.Grind.{common_steps}
use Rattle.std.proofs.ByRecursion.{All-take}
use Rattle.panel.specs.Stored.{StoresTheFile, EveryFileReadBack}

-- so many bytes at a place
abbrev rest : List ℕ → ℕ → Rest
rest bytes at = record { bytes = bytes; at = at }

-- what a layout says of its own bytes, whatever follows them, is what they were made of
record IsReadBack {X : Type 0} (l : Layout X) (x : X) : Type 0 where
  sized : length (piece_bytes l x) ≡ l.size
  said : (bytes : List ℕ) → l.says (piece_bytes l x ++ bytes) ≡ x

same : (n : ℕ) → not (n == n) ≡ false
same n = ap not (eq-eqb n n refl)

-- so a piece is taken, and what follows it is left
taken_back : {X Y : Type 0} (l : Layout X) (x : X) (bytes : List ℕ) (at : ℕ) (f : X × Rest → Result Y Refusal) → IsReadBack l x →
    and_then (taken l (rest (piece_bytes l x ++ bytes) at)) f ≡ f (x, rest bytes (at + l.size))
taken_back l x bytes at f back =
    let r : Rest = rest (piece_bytes l x ++ bytes) at in
    let room : l.size ≤ length r.bytes = omega (arith, length-append (piece_bytes l x) bytes, back.sized) in
    then_ok (taken l r) (x, rest bytes (at + l.size)) f (unless_none (piece_faults l r) _ (le-ltb (length r.bytes) l.size room, (same l.letter, tt))
    ∙ ap₂ (λ y (left : List ℕ). Ok (y, rest left (at + l.size))) (back.said bytes) (drop_at (piece_bytes l x) bytes l.size back.sized))

module _ (o : Order) where
  word_back : (front : List ℕ) (n : ℕ) (bytes : List ℕ) (i : ℕ) → length front ≡ i → n < 2 ^ 32 → word_at o (front ++ (o.writes n ++ bytes)) i ≡ n
  word_back front n bytes i e small =
      ap (λ l. o.reads (take 4 l)) (drop_at front (o.writes n ++ bytes) i e) ∙ ap o.reads (take_at (o.writes n) bytes 4 (o.four n)) ∙ o.back n small

  pub range_sized : (w : Words) → length (piece_bytes (range_piece o) w) ≡ 10
  range_sized w = omega (arith, length-append (o.writes w.lower) (o.writes w.upper), o.four w.lower, o.four w.upper)

  pub length_sized : (n : ℕ) → length (piece_bytes (length_piece o) n) ≡ 5
  length_sized n = omega (arith, o.four n)

  header_back : (h : Header) → h.count < 2 ^ 32 → IsReadBack (header_piece o) h
  header_back h small = record {
    sized = omega (arith, o.four h.count);
    said = λ bytes. ap (λ n. record { axes = h.axes; predictor = h.predictor; packing = h.packing; count = n })
        (word_back (0x4E ∷ h.axes ∷ h.predictor ∷ h.packing ∷ []) h.count bytes 4 refl small);
  }

  length_back : (n : ℕ) → n < 2 ^ 32 → IsReadBack (length_piece o) n
  length_back n small = record { sized = length_sized n; said = λ bytes. word_back (0x56 ∷ []) n bytes 1 refl small }

  range_back : (w : Words) → w.lower < 2 ^ 32 → w.upper < 2 ^ 32 → IsReadBack (range_piece o) w
  range_back w low high =
      let l = o.writes w.lower in
      let u = o.writes w.upper in
      record {
        sized = range_sized w;
        said = λ bytes.
            let split : (l ++ u) ++ bytes ≡ l ++ (u ++ bytes) = append_assoc l u bytes in
            ap₂ (λ x y. record { bits = w.bits; lower = x; upper = y })
            (ap (λ t. word_at o (0x51 ∷ w.bits ∷ t) 2) split ∙ word_back (0x51 ∷ w.bits ∷ []) w.lower (u ++ bytes) 2 refl low)
            (ap (λ t. word_at o (0x51 ∷ w.bits ∷ t) 6) split ∙ word_back (0x51 ∷ w.bits ∷ l) w.upper bytes 6 (omega (arith, o.four w.lower)) high);
      }

  scale_back : (g : Scale) (bytes : List ℕ) (at : ℕ) → IsRange g → scale_at o (rest (piece_bytes (range_piece o) (in_words g) ++ bytes) at) ≡ Ok (g, rest bytes (at + 10))
  scale_back g bytes at is =
      let low = passes _ is.held.0 in
      let high = passes _ is.held.1 in
      let l : of_bits binary32 (to_bits binary32 g.lower) ≡ g.lower = of_bits-to_bits binary32 g.lower low in
      let u : of_bits binary32 (to_bits binary32 g.upper) ≡ g.upper = of_bits-to_bits binary32 g.upper high in
      taken_back (range_piece o) (in_words g) bytes at _ (range_back (in_words g) (to_bits-lt binary32 g.lower low) (to_bits-lt binary32 g.upper high))
      ∙ unless_none (range_faults (in_words g) at) _ (
        ap not (and_from _ _ (le-leb 1 g.bits is.wide.0) (le-leb g.bits 24 is.wide.1)),
        (
          ap not (and_from _ _ (ap good_end l ∙ is.low.0) (ap good_end u ∙ is.high.0)),
          (ap not (ap₂ (λ x y. lt_z (units_of x) (units_of y)) l u ∙ holds _ is.ordered.lt), tt),
        ),
      )
      ∙ ap (λ s. Ok (s, rest bytes (at + 10))) (ap₂ (scale_from g.bits) l u ∙ (stays g is).1)

module _ (o : Order) (m : PredictorMeaning) (q : PackingMeaning) (n : ℕ) (counted : IsVertexCount n) where
  body_back : (list : List ℤ) (bytes : List ℕ) (at : ℕ) → length list ≡ n → AllByRecursion Word list →
      body_at o q.reading n (length (q.writes o list)) (rest (q.writes o list ++ bytes) at) ≡ Ok (list, rest bytes (at + length (q.writes o list)))
  body_back list bytes at long words =
      let body : List ℕ = q.writes o list in
      let left : Rest = rest bytes (at + length body) in
      let room : length body ≤ length (body ++ bytes) = omega (arith, length-append body bytes) in
      let read : q.reading.reads o n body ≡ Ok list = subst (λ k. q.reading.reads o k body ≡ Ok list) long (q.back o list (rw long counted) words) in
      then_ok (bytes_taken (length body) (rest (body ++ bytes) at)) (body, left) _
      (unless_none (cut_short (length body) (rest (body ++ bytes) at)) _ (le-ltb (length (body ++ bytes)) (length body) room, tt)
      ∙ ap₂ (λ (b y : List ℕ). Ok (b, rest y (at + length body))) (take_at body bytes (length body) refl) (drop_at body bytes (length body) refl))
      ∙ ap (result_map_both (λ (y : List ℤ). (y, left)) (λ (why : Why). refusal_at why at)) read

  axis_back : (x : Axis) (bytes : List ℕ) (at : ℕ) → IsAxis n x → axis_at o m q.reading n (rest (axis_bytes o m q x ++ bytes) at) ≡ Ok (x, rest bytes (at + length (axis_bytes o m q x)))
  unfolding axis_bytes opened
  axis_back x bytes at is =
      let list : List ℤ = residues m x.codes in
      let few : 0 + length x.codes ≤ 65536 = omega (arith, is.long, counted.1) in
      let long : length list ≡ n = length-residues m 0 start x.codes ∙ is.long in
      let codes : AllByRecursion Word x.codes = codes_words x.scale x.codes is.scale is.inside in
      let words : AllByRecursion Word list = residues-words m 0 start x.codes few start-words codes in
      let undo : values m list ≡ x.codes = values-back m 0 start x.codes few start-words codes in
      let body : List ℕ = q.writes o list in
      let R : List ℕ = piece_bytes (range_piece o) (in_words x.scale) in
      let V : List ℕ = piece_bytes (length_piece o) (length body) in
      let v : IsReadBack (length_piece o) (length body) = length_back o (length body) (omega (arith, q.short list words, q.sized o list, long, counted.1)) in
      let split : (R ++ (V ++ body)) ++ bytes ≡ R ++ (V ++ (body ++ bytes)) = append_assoc R (V ++ body) bytes ∙ ap (λ y. R ++ y) (append_assoc V body bytes) in
      let far : at + 10 + 5 + length body ≡ at + length (R ++ (V ++ body)) = omega (arith, length-append R (V ++ body), length-append V body, range_sized o (in_words x.scale), v.sized) in
      let axis : Opened = record { scale = x.scale; stored = list; place = at + 10 + 5 } in
      ap (λ y. axis_at o m q.reading n (rest y at)) split
      ∙ then_ok (opened o q.reading n (rest (R ++ (V ++ (body ++ bytes))) at)) (axis, rest bytes (at + 10 + 5 + length body)) (coded m)
      (then_ok (scale_at o (rest (R ++ (V ++ (body ++ bytes))) at)) (x.scale, rest (V ++ (body ++ bytes)) (at + 10)) _ (scale_back o x.scale (V ++ (body ++ bytes)) at is.scale)
      ∙ taken_back (length_piece o) (length body) (body ++ bytes) (at + 10) _ v
      ∙ then_ok (body_at o q.reading n (length body) (rest (body ++ bytes) (at + 10 + 5))) (list, rest bytes (at + 10 + 5 + length body)) _ (body_back list bytes (at + 10 + 5) long words))
      ∙ unless_none (code_faults x.scale (values m list) (at + 10 + 5)) _ (ap not (ap (all_codes x.scale) undo ∙ is.inside), tt)
      ∙ ap₂ (λ (codes : List ℤ) (a : ℕ). Ok (record { scale = x.scale; codes = codes }, rest bytes a)) undo far

  axes_back : (xs : List Axis) (bytes : List ℕ) (at : ℕ) → AllByRecursion (IsAxis n) xs →
      axes_at o m q.reading n (length xs) (rest (flat_map (axis_bytes o m q) xs ++ bytes) at) ≡ Ok (xs, rest bytes (at + length (flat_map (axis_bytes o m q) xs)))
  unfolding axes_at
  axes_back [] bytes at all = ap (λ (a : ℕ). Ok ([], rest bytes a)) (omega arith)
  axes_back (x ∷ xs) bytes at all =
      let f = axis_bytes o m q in
      let tail : List ℕ = flat_map f xs ++ bytes in
      let next : ℕ = at + length (f x) in
      ap (λ y. axes_at o m q.reading n (suc (length xs)) (rest y at)) (append_assoc (f x) (flat_map f xs) bytes)
      ∙ then_ok (axis_at o m q.reading n (rest (f x ++ tail) at)) (x, rest tail next) _ (axis_back x tail at all.0)
      ∙ then_ok (axes_at o m q.reading n (length xs) (rest tail next)) (xs, rest bytes (next + length (flat_map f xs))) (with_axis x) (axes_back xs bytes next all.1)
      ∙ ap (λ (a : ℕ). Ok (x ∷ xs, rest bytes a)) (simp length-append (omega arith))

-- the file of a panel, for as many axes as it has and a point list of enough room
panel_back : (o : Order) (m : PredictorMeaning) (q : PackingMeaning) (x : Panel) (room axes : ℕ) → IsPanel axes room x → judged o m q.reading axes room (file_of o m q x) ≡ Ok x
unfolding judged panel_at file_of
panel_back o m q x room axes is =
    let h : Header = record { axes = length x.axes; predictor = m.number; packing = q.reading.number; count = x.count } in
    let E : List ℕ = piece_bytes end_piece tt in
    let bytes : List ℕ = flat_map (axis_bytes o m q) x.axes ++ E in
    let far : ℕ = 8 + length (flat_map (axis_bytes o m q) x.axes) in
    then_ok (panel_at o m q.reading axes room (rest (file_of o m q x) 0)) (x, rest [] (far + 1)) _
    (then_ok (head_at o m q.reading axes room (rest (file_of o m q x) 0)) (x.count, rest bytes 8) _
    (taken_back (header_piece o) h bytes 0 _ (header_back o h (omega (arith, is.counted.1)))
    ∙ unless_none (header_faults m q.reading axes room h 0) _ (
      ap not (eq-eqb (length x.axes) axes is.sized),
      (same m.number, (same q.reading.number, (ap not (and_from _ _ (le-leb 2 x.count is.counted.0) (le-leb x.count 4096 is.counted.1)), (le-ltb room x.count is.fits, tt)))),
    ))
    ∙ then_ok (axes_at o m q.reading x.count axes (rest bytes 8)) (x.axes, rest E far) _
    (ap (λ a. axes_at o m q.reading x.count a (rest bytes 8)) (sym is.sized) ∙ axes_back o m q x.count is.counted x.axes E 8 is.sound))

module _ {P : Type 0} (k : KindMeaning P) where
  codes_within : (g : Scale) (a : ℕ) (ps : List P) → IsRange g → inside_on k a g ps ≡ true → all_codes g (codes_on k a g ps) ≡ true
  unfolding inside_on codes_on all_codes
  codes_within g a [] is h = refl
  codes_within g a (p ∷ ps) is h = let parts = and_parts _ _ h in and_from _ _ (code-within g is (k.coordinate p a) parts.0) (codes_within g a ps is parts.1)

  axes_sound : (ps : List P) (a : ℕ) (gs : List Scale) → AllByRecursion IsRange gs → inside_from k ps a gs ≡ true → AllByRecursion (IsAxis (length ps)) (axes_from k ps a gs)
  unfolding inside_from axes_from codes_on
  axes_sound ps a [] is h = tt
  axes_sound ps a (g ∷ gs) is h =
      let parts = and_parts _ _ h in
      (record { scale = is.0; long = length-map ps _; inside = codes_within g a ps is.0 parts.0 }, axes_sound ps (a + 1) gs is.1 parts.1)

  pub length-axes : (ps : List P) (a : ℕ) (gs : List Scale) → length (axes_from k ps a gs) ≡ length gs
  unfolding axes_from
  length-axes ps a gs = length-map (enumerate_from a gs) _ ∙ length-enumerate_from a gs

  pub every_file_read_back : EveryFileReadBack k
  every_file_read_back o m q ps gs room are counted enough wide inside =
      let used : List Scale = take k.axes gs in
      panel_back o m q (panel_of k gs ps) room k.axes (record {
        counted = counted;
        fits = enough;
        sized = length-axes ps 0 used ∙ length-take-le k.axes gs wide;
        sound = axes_sound ps 0 used (All-take IsRange k.axes gs are) inside;
      })

  -- what an accepted store tells of its design points
  pub stores-the-file : StoresTheFile k
  stores-the-file m q ps gs room old n out h = grind (arith, common_steps)
