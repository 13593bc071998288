-- Point kinds: their axes, how a point is made and what it tells; the flat and the mould kind.
use Rattle.std.specs.Prelude.{◌≡◌, refl, ℕ, ◌<◌, ◌≤◌, [], ◌∷◌, get_or, ℤ, pos}
use Rattle.std.proofs.Common.{lit≤}
use Rattle.std.proofs.lemmas.List.{get_or-take, get_or_past}
use Rattle.kinds.specs.declared.Flat.{Flat}
use Rattle.kinds.specs.declared.Mould.{Mould}

-- three numbers, one for each axis; 0 past the third
abbrev pub triple : ℤ → ℤ → ℤ → ℕ → ℤ
triple x y z axis = get_or (x ∷ y ∷ z ∷ []) axis (pos 0)

-- a point kind: its axes, how a point is made, what it tells on each axis, and the laws of that
pub record KindMeaning (P : Type 0) : Type 0 where
  pub axes : ℕ
  pub make : ℤ → ℤ → ℤ → P
  pub coordinate : P → ℕ → ℤ
  pub some_axis : 1 ≤ axes
  pub few_axes : axes ≤ 3
  -- a made point tells the numbers it was made from
  pub told : (x y z : ℤ) (a : ℕ) → a < axes → coordinate (make x y z) a ≡ triple x y z a
  pub beyond : (p : P) (a : ℕ) → axes ≤ a → coordinate p a ≡ pos 0

-- the flat kind: two axes; its laws are the library's, of a list's entries
abbrev pub flat : KindMeaning Flat
flat = record {
  axes = 2;
  make = λ x y z. record { x = x; y = y };
  coordinate = λ p axis. get_or (p.x ∷ p.y ∷ []) axis (pos 0);
  some_axis = lit≤ tt;
  few_axes = lit≤ tt;
  told = λ x y z axis. get_or-take 2 (x ∷ y ∷ z ∷ []) axis (pos 0);
  beyond = λ p axis. get_or_past (p.x ∷ p.y ∷ []) axis (pos 0);
}

-- the mould kind: three axes
abbrev pub mould : KindMeaning Mould
mould = record {
  axes = 3;
  make = λ x y z. record { x = x; y = y; z = z };
  coordinate = λ p axis. get_or (p.x ∷ p.y ∷ p.z ∷ []) axis (pos 0);
  some_axis = lit≤ tt;
  few_axes = lit≤ tt;
  told = λ x y z axis h. refl;
  beyond = λ p axis. get_or_past (p.x ∷ p.y ∷ p.z ∷ []) axis (pos 0);
}
