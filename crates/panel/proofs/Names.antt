-- The names that several of these proofs cite, passed on from one place.
pub use Rattle.std.proofs.Common.{◌≡◌, ℕ, ◌+◌, ◌≤◌, List, ◌++◌, length, take, drop, refl, sym, ap, ◌∙◌, ap₂, append-nil, arith, length-append, length-take, append_assoc, ◌*◌, w32, ◌<◌, true, get_or, ℤ, Bool, [], ◌∷◌, set, zero, suc, pos, ◌^◌, Ok, not, false, subst, Result, Err, leb, ⊎_elim, lit≤, true≢false, is_ok}
pub use Rattle.kinds.specs.Vertex.{IsVertexCount, is_vertex_count}
pub use Rattle.kinds.specs.Kind.{KindMeaning}
pub use Rattle.pack.specs.Packing.{PackingMeaning, ReadingMeaning}
pub use Rattle.panel.specs.Judging.{piece_faults, header_faults, range_faults, cut_short, code_faults, Fault, unless, trailing_faults, taken, bytes_taken, scale_at, body_at, Opened, coded, with_axis, head_at, axis_at, end_at, nothing_follows}
unfoldable pub use Rattle.panel.specs.Judging.{all_codes, opened, axes_at, panel_at, judged}
pub use Rattle.panel.specs.Layout.{piece_bytes, range_piece, length_piece, header_piece, rest_bytes, end_piece, stored_axis, Rest, Layout, Header, rest_at, past}
unfoldable pub use Rattle.panel.specs.Layout.{file_of, axis_bytes}
pub use Rattle.panel.specs.Panel.{Axis, panel_of, all_inside, panel_on, Panel}
unfoldable pub use Rattle.panel.specs.Panel.{codes_on, axes_from, inside_on, inside_from}
pub use Rattle.predict.proofs.Undone.{start-words, values-back, residues-words, length-residues, length-values}
pub use Rattle.predict.specs.Predictor.{PredictorMeaning}
pub use Rattle.predict.specs.Residues.{residues, after, stored, start, values}
unfoldable pub use Rattle.predict.specs.Residues.{residues_from}
pub use Rattle.range.proofs.Ranges.{stays, code-within, code-nat, quanta-small}
pub use Rattle.range.specs.Scale.{in_words, Scale, inside, IsRange, scale_from, quanta, scale_of}
unfoldable pub use Rattle.range.specs.Scale.{code_in, place_in}
unfoldable pub use Rattle.range.specs.Scale.{good_end, units_of, plain}
pub use Rattle.range.specs.declared.words.Words.{Words}
pub use Rattle.refusal.specs.Refusals.{refusal_at, and_then}
pub use Rattle.refusal.specs.declared.Refusal.{Refusal}
pub use Rattle.refusal.specs.declared.Why.{Why}
pub use Rattle.std.proofs.lemmas.Bool.{true_from_ne_false, true≢false, le-ltb, eq-eqb, le-leb, and_from, and_parts, cond_both, not-false, leb-true, ltb-false, cond-false}
pub use Rattle.std.proofs.lemmas.List.{drop_all, get_or-map, get_or_default, get_or-take, length-take-le, drop_more, take_all, take_more_set, take_at, drop_at, length-map}
pub use Rattle.std.proofs.lemmas.List.FromFn.{length-enumerate_from, get_or-enumerate_from}
pub use Rattle.std.specs.List.{flat_map, enumerate_from, list_all, AllByRecursion}
pub use Rattle.std.specs.Prelude.{◌==◌, ◌⊎◌, IfOk, IfErr}
pub use Rattle.std.specs.Result.{result_map_both}
pub use Rattle.words.specs.Bytes.{overwritten}
pub use Rattle.words.specs.Numbers.{Word}
pub use Rattle.words.specs.Order.{Order, word_at}
pub use lib.Ieee.{binary32, of_bits, to_bits, Float, nan, inf, fin}
unfoldable pub use lib.Ieee.{fits}
pub use lib.Signed.{lt_z}
pub use lib.Ieee.Bits.{of_bits-fits, of_bits-to_bits, to_bits-lt, is_true}
pub use Rattle.std.proofs.lemmas.Float.{T_from_true}
