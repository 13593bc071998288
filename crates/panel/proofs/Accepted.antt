-- What is known of the panel of an accepted file, and of the refusal of any other.
use Rattle.panel.proofs.Names.{◌≡◌, ℕ, zero, suc, ◌^◌, ◌<◌, ◌≤◌, true, List, [], ◌∷◌, length, ℤ, Ok, Err, Result, leb, sym, refl, ap, ◌∙◌, ap₂, subst, ⊎_elim, arith, lit≤, Float, nan, inf, fin, binary32, fits, of_bits, lt_z, ◌⊎◌, IfOk, IfErr, AllByRecursion, result_map_both, cond_both, and_parts, not-false, leb-true, ltb-false, le-ltb, Word, Order, Why, Refusal, and_then, refusal_at, IsVertexCount, PredictorMeaning, start, values, length-values, ReadingMeaning, Words, Scale, IsRange, quanta, scale_of, plain, code-nat, quanta-small, Rest, rest_at, past, Layout, header_piece, range_piece, length_piece, end_piece, Axis, Panel, Fault, unless, piece_faults, header_faults, range_faults, cut_short, all_codes, code_faults, trailing_faults, taken, bytes_taken, end_at, nothing_follows, scale_at, body_at, Opened, opened, with_axis, head_at, axis_at, axes_at, panel_at, judged, of_bits-fits, is_true as holds, T_from_true as passes}
use Rattle.refusal.specs.declared.Why.TheVariants.{BodyLength, SpareBits}
use Rattle.refusal.specs.Refusals.{number_of}
use Rattle.range.proofs.Units.{plain_good, plain_units, plain_plain}
use Rattle.panel.proofs.Faults.{NoneFound, is_count, unless_none, then_ok}

-- an axis of a panel of n vertices
pub record IsAxis (n : ℕ) (x : Axis) : Type 0 where
  pub scale : IsRange x.scale
  pub long : length x.codes ≡ n
  pub inside : all_codes x.scale x.codes ≡ true

-- a panel of so many axes, for a point list of so much room
pub record IsPanel (axes room : ℕ) (x : Panel) : Type 0 where
  pub counted : IsVertexCount x.count
  pub fits : x.count ≤ room
  pub sized : length x.axes ≡ axes
  pub sound : AllByRecursion (IsAxis x.count) x.axes

-- codes are 32-bit numbers
pub codes_words : (g : Scale) (cs : List ℤ) → IsRange g → all_codes g cs ≡ true → AllByRecursion Word cs
unfolding all_codes
codes_words g [] is h = tt
codes_words g (c ∷ cs) is h =
    let parts = and_parts _ _ h in
    let n = code-nat g c parts.0 in
    let small : quanta g < 2 ^ 24 = (quanta-small g is).1 in
    (subst Word (sym n.0) (record { sfits = omega (arith, n.1) }), codes_words g cs is parts.1)

plain_fits : (x : Float) → fits binary32 x ≡ true → fits binary32 (plain x) ≡ true
unfolding plain fits
plain_fits nan h = h
plain_fits (inf s) h = h
plain_fits (fin s zero e) h = refl
plain_fits (fin s (suc m) e) h = h

-- words without a fault are those of a range
pub is_range : (w : Words) (at : ℕ) → NoneFound (range_faults w at) → IsRange (scale_of w)
is_range w at none =
    let l : Float = of_bits binary32 w.lower in
    let u : Float = of_bits binary32 w.upper in
    let bits = and_parts _ _ (not-false _ none.0) in
    let ends = and_parts _ _ (not-false _ none.1.0) in
    record {
      wide = (leb-true _ _ bits.0, leb-true _ _ bits.1);
      low = (plain_good l ∙ ends.0, plain_plain l);
      high = (plain_good u ∙ ends.1, plain_plain u);
      ordered = record { lt = passes _ (ap₂ lt_z (plain_units l) (plain_units u) ∙ not-false _ none.1.1.0) };
      held = (plain_fits l (holds _ (of_bits-fits binary32 w.lower)), plain_fits u (holds _ (of_bits-fits binary32 w.upper)));
    }

-- what holds of an answer: of what is accepted, this; and a refusal has a number of 4 or more
abbrev Holds : {X : Type 0} → (X → Type 0) → Result X Refusal → Type 0
Holds P (Ok x) = P x
Holds P (Err e) = 4 ≤ number_of e.why

then_holds : {X Y : Type 0} (P : X → Type 0) (Q : Y → Type 0) (r : Result X Refusal) (f : X → Result Y Refusal) → Holds P r → ((x : X) → r ≡ Ok x → P x → Holds Q (f x)) → Holds Q (and_then r f)
then_holds P Q (Ok x) f p q = q x refl p
then_holds P Q (Err e) f p q = p

unless_holds : {X : Type 0} (Q : X → Type 0) (fs : List Fault) (good : Result X Refusal) → AllByRecursion (λ f. leb 4 (number_of f.why) ≡ true) fs → (NoneFound fs → Holds Q good) → Holds Q (unless fs good)
unless_holds Q [] good late q = q tt
unless_holds Q (f ∷ fs) good late q = cond_both f.found _ _ (Holds Q) (λ _. leb-true _ _ late.0) (λ e. unless_holds Q fs good late.1 (λ none. q (e, none)))

-- a piece is taken, and what follows it is left
taken_holds : {X Y : Type 0} (Q : Y → Type 0) (l : Layout X) (r : Rest) (f : X × Rest → Result Y Refusal) → ((y : X × Rest) → taken l r ≡ Ok y → y.1 ≡ past l.size r → Holds Q (f y)) → Holds Q (and_then (taken l r) f)
taken_holds Q l r f q =
    then_holds (λ y. y.1 ≡ past l.size r) Q (taken l r) f (unless_holds (λ y. y.1 ≡ past l.size r) (piece_faults l r) _ (refl, (refl, tt)) (λ _. refl)) q

module _ (o : Order) (m : PredictorMeaning) (q : ReadingMeaning) where
  read_holds : (n at : ℕ) (left : Rest) (r : Result (List ℤ) Why) → IfOk r (λ xs. length xs ≡ n) → IfErr r (λ why. (why ≡ BodyLength) ⊎ (why ≡ SpareBits)) →
      Holds (λ (y : List ℤ × Rest). length y.0 ≡ n) (result_map_both (λ (list : List ℤ). (list, left)) (λ (why : Why). refusal_at why at) r)
  read_holds n at left (Ok list) counts refusals = counts
  read_holds n at left (Err why) counts refusals = ⊎_elim (λ (h : why ≡ BodyLength). rw h (lit≤ tt)) (λ (h : why ≡ SpareBits). rw h (lit≤ tt)) refusals

  axis_holds : (n : ℕ) (r : Rest) → Holds (λ y. IsAxis n y.0) (axis_at o m q n r)
  unfolding opened
  axis_holds n r =
      let Open : Opened × Rest → Type 0 = λ y. IsRange y.0.scale × (length y.0.stored ≡ n) in
      then_holds Open (λ y. IsAxis n y.0) (opened o q n r) _
      (then_holds (λ y. IsRange y.0) Open (scale_at o r) _
      (taken_holds (λ y. IsRange y.0) (range_piece o) r _ (λ w _ _. unless_holds (λ y. IsRange y.0) (range_faults w.0 r.at) _ (refl, (refl, (refl, tt))) (is_range w.0 r.at))) (λ s _ is.
      taken_holds Open (length_piece o) s.1 _ (λ v _ _.
      then_holds (λ y. length y.0 ≡ n) Open (body_at o q n v.0 v.1) _
      (then_holds (λ _. Unit {0}) (λ y. length y.0 ≡ n) (bytes_taken v.0 v.1) _ (unless_holds (λ _. Unit {0}) (cut_short v.0 v.1) _ (refl, tt) (λ _. tt))
      (λ b _ _. read_holds n v.1.at b.1 (q.reads o n b.0) (q.counts o n b.0) (q.refusals o n b.0))) (λ b _ long. (is, long)))))
      (λ x _ known. unless_holds (λ y. IsAxis n y.0) (code_faults x.0.scale (values m x.0.stored) x.0.place) _ (refl, tt) (λ none.
      record { scale = known.0; long = length-values m 0 start x.0.stored ∙ known.1; inside = not-false _ none.0 }))

  abbrev Axes : ℕ → ℕ → List Axis × Rest → Type 0
  Axes n a y = (length y.0 ≡ a) × AllByRecursion (IsAxis n) y.0

  axes_holds : (n a : ℕ) (r : Rest) → Holds (Axes n a) (axes_at o m q n a r)
  unfolding axes_at
  axes_holds n zero r = (refl, tt)
  axes_holds n (suc a) r =
      then_holds (λ y. IsAxis n y.0) (Axes n (suc a)) (axis_at o m q n r) _ (axis_holds n r) (λ x _ is.
      then_holds (Axes n a) (Axes n (suc a)) (axes_at o m q n a x.1) (with_axis x.0) (axes_holds n a x.1) (λ xs _ all. (ap suc all.0, (is, all.1))))

  module _ (axes room : ℕ) where
    -- the count, what follows N, and that wherever there is room for so many the same is answered
    abbrev Headed : Rest → ℕ × Rest → Type 0
    Headed r y = IsVertexCount y.0 × (y.0 ≤ room) × (y.1 ≡ past 8 r) × ((wide : ℕ) → y.0 ≤ wide → head_at o m q axes wide r ≡ Ok y)

    head_holds : (r : Rest) → Holds (Headed r) (head_at o m q axes room r)
    head_holds r =
        taken_holds (Headed r) (header_piece o) r _ (λ h was past.
        unless_holds (Headed r) (header_faults m q axes room h.0 r.at) _ (refl, (refl, (refl, (refl, (refl, tt))))) (λ none. (
          is_count h.0.count none.1.1.1.0,
          ltb-false _ _ none.1.1.1.1.0,
          past,
          λ wide fits. then_ok (taken (header_piece o) r) h _ was
              ∙ unless_none (header_faults m q axes wide h.0 r.at) _ (none.0, (none.1.0, (none.1.1.0, (none.1.1.1.0, (le-ltb wide h.0.count fits, tt))))),
        )))

    -- an accepted file: its panel, which it means wherever there is room for so many, and its axes, which follow N
    pub record Accepted (file : List ℕ) (x : Panel) : Type 0 where
      pub is : IsPanel axes room x
      pub anyway : (wide : ℕ) → x.count ≤ wide → judged o m q axes wide file ≡ Ok x
      pub rest : Rest
      pub walked : axes_at o m q x.count axes (past 8 (rest_at file 0)) ≡ Ok (x.axes, rest)

    -- a panel and what follows it: all that, if nothing does
    abbrev Judged : List ℕ → Panel × Rest → Type 0
    Judged file y = nothing_follows y.1 ≡ Ok tt → Accepted file y.0

    judged_holds : (file : List ℕ) → Holds (Accepted file) (judged o m q axes room file)
    unfolding judged panel_at
    judged_holds file =
        let r : Rest = rest_at file 0 in
        then_holds (Judged file) (Accepted file) (panel_at o m q axes room r) _
        (then_holds (Headed r) (Judged file) (head_at o m q axes room r) _ (head_holds r) (λ h _ head.
        then_holds (Axes h.0 axes) (Judged file) (axes_at o m q h.0 axes h.1) _ (axes_holds h.0 axes h.1) (λ x walked all.
        then_holds (λ _. Unit {0}) (Judged file) (end_at x.1) _ (taken_holds (λ _. Unit {0}) end_piece x.1 _ (λ _ _ _. tt)) (λ e ended _ ends. record {
          is = record { counted = head.0; fits = head.1; sized = all.0; sound = all.1 };
          anyway = λ wide room.
              then_ok (panel_at o m q axes wide r) (record { count = h.0; axes = x.0 }, e) _
              (then_ok (head_at o m q axes wide r) h _ (head.3 wide room) ∙ then_ok (axes_at o m q h.0 axes h.1) x _ walked ∙ then_ok (end_at x.1) e _ ended)
              ∙ then_ok (nothing_follows e) tt _ ends;
          rest = x.1;
          walked = ap (axes_at o m q h.0 axes) (sym head.2) ∙ walked;
        }))))
        (λ p _ known. then_holds (λ _. Unit {0}) (Accepted file) (nothing_follows p.1) _ (unless_holds (λ _. Unit {0}) (trailing_faults p.1) _ (refl, tt) (λ _. tt)) (λ e ended _. known ended))

    pub accepted : (file : List ℕ) (x : Panel) → judged o m q axes room file ≡ Ok x → Accepted file x
    accepted file x e = subst (Holds (Accepted file)) e (judged_holds file)

    -- the refusal of a file has a number of 4 or more
    pub refused_late : (file : List ℕ) (e : Refusal) → judged o m q axes room file ≡ Err e → 4 ≤ number_of e.why
    refused_late file e h = subst (Holds (Accepted file)) h (judged_holds file)
