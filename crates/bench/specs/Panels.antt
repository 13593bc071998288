-- A panel on a bench, and what a caller sees of its calls, up to the first that is refused.
use Rattle.std.specs.Prelude.{ℕ, List, [], ◌∷◌, IfSome, is_ok, if◌then◌else◌}
use Rattle.kinds.specs.Vertex.{IsVertexCount}
use Rattle.kinds.specs.Kind.{KindMeaning}
use Rattle.law.specs.declared.Stage.{Stage}
use Rattle.law.specs.Calls.{Load, Splitting, Call, load, split, cut, close, Lists, State, new, Answer, Effect, panel_count, step}

-- where there is a panel, it has from 2 to 4,096 vertices
abbrev pub HasVertices : Stage → Type 0
HasVertices stage = IfSome (panel_count stage) IsVertexCount

-- the last answer, and the three lists
pub record Seen (R P : Type 0) : Type 0 where
  pub answer : R
  pub lists : Lists P

abbrev pub seen : {R P : Type 0} → R → Lists P → Seen R P
seen answer lists = record { answer = answer; lists = lists }

-- what is seen of what a call leads to
abbrev pub seen_of : {P : Type 0} → Effect P → Seen Answer P
seen_of e = seen e.answer e.after.lists

module _ {P : Type 0} (k : KindMeaning P) where
  -- a call and those after it, each from what the one before it left; a refusal ends them
  abbrev pub until_refused : State P → Call → List Call → Seen Answer P
  until_refused s c [] = seen_of (step k s c)
  until_refused s c (d ∷ ds) =
      if is_ok (step k s c).answer then until_refused (step k s c).after d ds else seen_of (step k s c)

  -- a panel's four calls on a new bench
  unfoldable pub one_panel : Load → Splitting → Lists P → Seen Answer P
  one_panel l t lists = until_refused (new lists) (load l) (split t ∷ cut ∷ close ∷ [])
