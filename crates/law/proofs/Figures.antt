-- The figures of a run, computed.
use Rattle.std.proofs.Common.{false, [], ◌∷◌, replicate, pos, refl, lit≤}
use lib.Ieee.{fin, of_bits, to_bits, fits}
use Rattle.std.specs.Int.{int_wrap}
use Rattle.predict.specs.Residues.{residues_from, values_from}
use Rattle.pack.specs.Packing as P
use Rattle.range.specs.Scale.{Scale, IsRange, code_in, place_in}
use Rattle.range.specs.Scale.{good_end, units_of, plain}
use Rattle.panel.specs.Panel.{inside_on, codes_on, axes_from, inside_from, place_at, placed}
use Rattle.panel.specs.Layout.{axis_bytes, file_of}
use Rattle.panel.specs.Judging.{all_codes, opened, axes_at, panel_at, judged}
use Rattle.seam.specs.Seam.{grow, tree}
use Rattle.seam.specs.Weight.{from_to, m_of, weights_from, weight, limit}
use Rattle.seam.specs.Seam.{pick, tree_of, grow, tree}
use Rattle.law.specs.Program.{chain_bytes}
use Rattle.law.specs.Calls.{drawn}
use Rattle.law.specs.Figures.{Run}

sixteen : Scale
sixteen = record { bits = 4; lower = fin false 0 (pos 0); upper = fin false 1 (pos 4) }

sixteen-is : IsRange sixteen
unfolding sixteen good_end units_of plain fits
sixteen-is = record {
  wide = (lit≤ tt, lit≤ tt);
  low = (refl, refl);
  high = (refl, refl);
  ordered = record { lt = tt };
  held = (refl, refl);
}

pub run : Run
unfolding sixteen of_bits to_bits good_end units_of plain fits code_in place_in int_wrap residues_from values_from inside_on codes_on axes_from inside_from axis_bytes file_of all_codes opened axes_at panel_at judged place_at placed grow tree from_to m_of weights_from weight limit pick tree_of chain_bytes drawn
run = record {
  written = refl;
  marks = refl;
  went = refl;
  ranges = sixteen ∷ sixteen ∷ sixteen ∷ [];
  first = record { three = refl; ranges = (sixteen-is, (sixteen-is, (sixteen-is, tt))); packing = P.plain; same = refl; room = 2; before = replicate 60 0; size = 55; after = _; stores = refl; file = refl };
  second = record { three = refl; ranges = (sixteen-is, (sixteen-is, (sixteen-is, tt))); packing = P.fielded; same = refl; room = 5; before = replicate 60 0; size = 56; after = _; stores = refl; file = refl };
}
