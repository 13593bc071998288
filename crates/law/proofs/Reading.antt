-- A program is read in one way at most.
use Rattle.std.proofs.Common.{◌≡◌, ℕ, Bool, true, false, cond, List, [], ◌∷◌, ◌++◌, length, get_or, ℤ, sym, refl, ap, ◌∙◌, ap₂, arith, take, drop}
use Rattle.std.proofs.Math.Seq.{take-append_seam, drop-append_seam}
use Rattle.std.specs.List.{flat_map, AllByRecursion}
use Rattle.std.proofs.lemmas.List.{append_assoc}
use Rattle.words.specs.Numbers.{Word}
use Rattle.words.specs.Order.{low_first, numbers_of, spelled}
use Rattle.words.proofs.Spelling.{length_spelled, numbers_back}
use Rattle.law.specs.Program.{Chain, stroke, finish, chain_bytes, program_bytes}
use Rattle.law.specs.Law.{Steps, IsChain, ReadsOnce}

apart : {X : Type 0} (xs ys us vs : List X) → length xs ≡ length ys → xs ++ us ≡ ys ++ vs → (xs ≡ ys) × (us ≡ vs)
apart xs ys us vs h e = (
  sym (take-append_seam xs us) ∙ ap₂ take h e ∙ take-append_seam ys vs,
  sym (drop-append_seam xs us) ∙ ap₂ drop h e ∙ drop-append_seam ys vs,
)

spelled-once : (zs ws : List ℤ) → length zs ≡ length ws → AllByRecursion Word zs → AllByRecursion Word ws → spelled low_first zs ≡ spelled low_first ws → zs ≡ ws
spelled-once zs ws h a b e = sym (numbers_back low_first zs a) ∙ ap₂ (numbers_of low_first) h e ∙ numbers_back low_first ws b

module _ (axes : ℕ) where
  steps-once : (zs ws : List ℤ) (us vs : List ℕ) → Steps axes zs → Steps axes ws → spelled low_first zs ++ us ≡ spelled low_first ws ++ vs → (zs ≡ ws) × (us ≡ vs)
  steps-once zs ws us vs a b e =
      let same : length zs ≡ length ws = a.0 ∙ sym b.0 in
      let r = apart (spelled low_first zs) (spelled low_first ws) us vs (omega (arith, length_spelled low_first zs, length_spelled low_first ws)) e in
      (spelled-once zs ws same a.1 b.1 r.0, r.1)

  abbrev stroke_bytes : List (List ℤ) → List ℕ → List ℕ
  stroke_bytes bs us = flat_map stroke bs ++ (0x55 ∷ us)

  strokes-once : (cs bs : List (List ℤ)) (us vs : List ℕ) → AllByRecursion (Steps axes) cs → AllByRecursion (Steps axes) bs → stroke_bytes cs us ≡ stroke_bytes bs vs → (cs ≡ bs) × (us ≡ vs)
  strokes-once [] [] us vs a b e = (refl, cc)
  strokes-once [] (y ∷ bs) us vs a b e = absurd (omega (arith, ap (λ (l : List ℕ). get_or l 0 0) e))
  strokes-once (x ∷ cs) [] us vs a b e = absurd (omega (arith, ap (λ (l : List ℕ). get_or l 0 0) e))
  strokes-once (x ∷ cs) (y ∷ bs) us vs a b e =
      let f : spelled low_first x ++ stroke_bytes cs us ≡ spelled low_first y ++ stroke_bytes bs vs =
      sym (append_assoc (spelled low_first x) (flat_map stroke cs) (0x55 ∷ us)) ∙ tail ∙ append_assoc (spelled low_first y) (flat_map stroke bs) (0x55 ∷ vs) in
      let r = steps-once x y (stroke_bytes cs us) (stroke_bytes bs vs) a.0 b.0 f in
      let s = strokes-once cs bs us vs a.1 b.1 r.1 in
      (ap₂ (λ (y : List ℤ) (ys : List (List ℤ)). y ∷ ys) r.0 s.0, s.1)
    where
      tail : (spelled low_first x ++ flat_map stroke cs) ++ (0x55 ∷ us) ≡ (spelled low_first y ++ flat_map stroke bs) ++ (0x55 ∷ vs)
      tail = cc

  -- a chain, and what follows
  chain-spread : (c : Chain) (us : List ℕ) → chain_bytes c ++ us ≡ 0x54 ∷ (spelled low_first c.from ++ (0x44 ∷ stroke_bytes c.strokes us))
  unfolding chain_bytes
  chain-spread c us =
      ap (λ (l : List ℕ). 0x54 ∷ l) (append_assoc (spelled low_first c.from) _ us
      ∙ ap (λ (l : List ℕ). spelled low_first c.from ++ (0x44 ∷ l)) (append_assoc (flat_map stroke c.strokes) (0x55 ∷ []) us))

  chain-once : (c d : Chain) (us vs : List ℕ) → IsChain axes c → IsChain axes d → chain_bytes c ++ us ≡ chain_bytes d ++ vs → (c ≡ d) × (us ≡ vs)
  chain-once c d us vs a b e =
      let f = sym (chain-spread c us) ∙ e ∙ chain-spread d vs in
      let g : spelled low_first c.from ++ (0x44 ∷ stroke_bytes c.strokes us) ≡ spelled low_first d.from ++ (0x44 ∷ stroke_bytes d.strokes vs) = cc in
      let r = steps-once c.from d.from _ _ a.travel b.travel g in
      let h : stroke_bytes c.strokes us ≡ stroke_bytes d.strokes vs = let i = r.1 in cc in
      let s = strokes-once c.strokes d.strokes us vs a.each b.each h in
      (ap₂ (λ (x : List ℤ) (ys : List (List ℤ)). record { from = x; strokes = ys }) r.0 s.0, s.1)

  finish-once : (e f : Bool) → cond {A = List ℕ} e finish [] ≡ cond {A = List ℕ} f finish [] → e ≡ f
  finish-once true true h = refl
  finish-once false false h = refl
  finish-once true false h = cc
  finish-once false true h = cc

  no-chain : (e : Bool) (d : Chain) (us : List ℕ) → cond e finish [] ≡ chain_bytes d ++ us → ⊥
  no-chain true d us h = let f = h ∙ chain-spread d us in let z : ◌≡◌ {A = ℕ} 0x45 0x54 = cc in omega arith
  no-chain false d us h = let f = h ∙ chain-spread d us in let z : ◌≡◌ {A = ℕ} 0 1 = cc in omega arith

  chains-once : (cs ds : List Chain) (e f : Bool) → AllByRecursion (IsChain axes) cs → AllByRecursion (IsChain axes) ds → program_bytes cs e ≡ program_bytes ds f → (cs ≡ ds) × (e ≡ f)
  chains-once [] [] e f a b h = (refl, finish-once e f h)
  chains-once [] (d ∷ ds) e f a b h = absurd (no-chain e d (program_bytes ds f) (h ∙ append_assoc (chain_bytes d) (flat_map chain_bytes ds) (cond f finish [])))
  chains-once (c ∷ cs) [] e f a b h = absurd (no-chain f c (program_bytes cs e) (sym h ∙ append_assoc (chain_bytes c) (flat_map chain_bytes cs) (cond e finish [])))
  chains-once (c ∷ cs) (d ∷ ds) e f a b h =
      let r = chain-once c d (program_bytes cs e) (program_bytes ds f) a.0 b.0
      (sym (append_assoc (chain_bytes c) (flat_map chain_bytes cs) (cond e finish [])) ∙ h ∙ append_assoc (chain_bytes d) (flat_map chain_bytes ds) (cond f finish [])) in
      let s = chains-once cs ds e f a.1 b.1 r.1 in
      (ap₂ (λ (x : Chain) (ys : List Chain). x ∷ ys) r.0 s.0, s.1)

pub reads_once : ReadsOnce
reads_once axes program cs ds e f a b = chains-once axes cs ds e f a.each b.each (sym a.bytes ∙ b.bytes)
