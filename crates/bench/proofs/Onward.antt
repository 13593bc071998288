-- A panel's four calls, one after another.
use Rattle.std.proofs.Common.{◌≡◌, ℕ, List, [], ◌∷◌, take, IfOk, Ok, Err, Option, Result, sym, refl, ap, ◌∙◌, subst}
use Rattle.refusal.specs.declared.Refusal.{Refusal}
use Rattle.kinds.specs.Kind.{KindMeaning}
use Rattle.law.specs.Calls.{Splitting, Load, Call, load, split, cut, close, Desk, lists_of, State, Report, Done, fresh, close_on, load_on, split_on, cut_on, effect, Vertices, Counts, Length, run, accepted, step}
use Rattle.law.specs.Law.{MisplacesNone, NoRunMisplacesAPanel}

abbrev done_of : {X L : Type 0} → Result X Refusal → Desk → L → Done X L
done_of answer bench list = record { answer = answer; bench = bench; list = list }

-- what a call does to its list, from its parts
pub joined : {X L : Type 0} (done : Done X L) (r : Result X Refusal) (d : Desk) (list : L) → r ≡ done.answer → d ≡ done.bench → list ≡ done.list → done ≡ done_of r d list
joined done r d list a b c = rw (a, b, c) refl

module _ {P : Type 0} (k : KindMeaning P) (x : Load) (t : Splitting) (ps : List P) (ms bs : List ℕ) where
  abbrev at : Desk → List P → List ℕ → List ℕ → State P
  at d points marks program = record { desk = d; lists = lists_of points marks program }

  -- an accepted call before others
  onward : (s s' : State P) (c : Call) (r : Report) (cs : List Call) → step k s c ≡ record { answer = Ok r; after = s' } → (run k s (c ∷ cs) ≡ run k s' cs) × (accepted k s (c ∷ cs) ≡ c ∷ accepted k s' cs)
  onward s s' c r cs e = rw e (refl, refl)

  -- a panel that all four calls accept is placed as the law says
  pub placed : {d1 d2 d3 d4 : Desk} {ps1 : List P} {ms2 bs3 bs4 : List ℕ} {n1 n3 : ℕ} {n2 : ℕ × ℕ}
      → load_on k x fresh ps ≡ done_of (Ok n1) d1 ps1
      → split_on k t d1 ps1 ms ≡ done_of (Ok n2) d2 ms2
      → cut_on k d2 ps1 ms2 bs ≡ done_of (Ok n3) d3 bs3
      → (r : Result ℕ Refusal) → close_on d3 bs3 ≡ done_of r d4 bs4 → IfOk r (λ n. n ≡ d4.length)
      → NoRunMisplacesAPanel k → IfOk r (λ n. MisplacesNone k (load x ∷ split t ∷ cut ∷ close ∷ []) (take n bs4))
  placed loads splits cuts (Err e) closes tells law = tt
  placed {d1} {d2} {d3} {d4} {ps1} {ms2} {bs3} {bs4} loads splits cuts (Ok n) closes tells law =
      let calls : List Call = load x ∷ split t ∷ cut ∷ close ∷ [] in
      let start : State P = at fresh ps ms bs in
      let l = onward start (at d1 ps1 ms bs) (load x) _ (split t ∷ cut ∷ close ∷ []) (ap (effect Vertices (λ l. lists_of l ms bs)) loads) in
      let s = onward (at d1 ps1 ms bs) (at d2 ps1 ms2 bs) (split t) _ (cut ∷ close ∷ []) (ap (effect Counts (λ l. lists_of ps1 l bs)) splits) in
      let c = onward (at d2 ps1 ms2 bs) (at d3 ps1 ms2 bs3) cut _ (close ∷ []) (ap (effect Length (λ l. lists_of ps1 ms2 l)) cuts) in
      let e = onward (at d3 ps1 ms2 bs3) (at d4 ps1 ms2 bs4) close _ [] (ap (effect Length (λ l. lists_of ps1 ms2 l)) closes) in
      let runs : run k start calls ≡ at d4 ps1 ms2 bs4 = l.0 ∙ s.0 ∙ c.0 ∙ e.0 in
      let accepts : accepted k start calls ≡ calls = l.1 ∙ ap (λ cs. load x ∷ cs) (s.1 ∙ ap (λ cs. split t ∷ cs) (c.1 ∙ ap (λ cs. cut ∷ cs) e.1)) in
      let Fine : List Call → ℕ → List ℕ → Type 0 = λ calls end program. MisplacesNone k calls (take end program) in
      subst (λ (end : ℕ). Fine calls end bs4) (sym tells)
      (subst (λ (s : State P). Fine calls s.desk.length s.lists.program) runs
      (subst (λ (cs : List Call). Fine cs (run k start calls).desk.length (run k start calls).lists.program) accepts (law start.lists calls)))
