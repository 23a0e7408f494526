-- For authors of box types: definitions that the contracts of callers don't name, and after them the lemmas for the
-- laws of a box. docs/OWN-BOX.md shows a box that is made of them.

-- numbers and fields in bytes
unfoldable pub use Rattle.mp4_frame.specs.Bytes.{number, be_bytes, bytes_of_fields, bytes_of_fields_onto}
pub use Rattle.mp4_frame.specs.Bytes.{width_of_fields, FieldsFit, full_box}
-- reading
pub use Rattle.mp4_frame.specs.Reading.{Reading, ◌>>=◌, done, check, expect_bytes, piece_at, memory, reading, Answers}
pub use Rattle.mp4_frame.specs.Reading.{AnswersAs, TakesNone}
unfoldable pub use Rattle.mp4_frame.specs.Tables.{rows_at}
pub use Rattle.mp4_frame.specs.Tables.{reads_table, size_table, WritableTable, bytes_table}
pub use Rattle.mp4_flat.specs.Time.{time_width, version_of, reads_timed, WritableTimed}
unfoldable pub use Rattle.mp4_tables.specs.Rows.{rows_within}
-- declared boxes and entries
pub use Rattle.std.proofs.Common.{refl, lit<}
pub use Rattle.mp4_declared.specs.Layout.{BitField, flag, unsigned, fields_of, OwnEntry, packed}
pub use Rattle.mp4_declared.specs.Layout.{layout_in, row_of, entry_of, FitsEntry}
pub use Rattle.mp4_declared.specs.Shape.{Shape}
unfoldable pub use Rattle.mp4_declared.specs.OwnBox.{reads_declared, reads_checked}
pub use Rattle.mp4_declared.specs.OwnBox.{OwnLayout, layout_of, format_declared, format_checked}
pub use Rattle.mp4_declared.specs.DeclaredEntry.{ExactLayout, exact_layout_of, entry_shape}
pub use Rattle.mp4_declared.specs.DeclaredEntryLaws.{some_first, some_either}
-- children
pub use Rattle.mp4_frame.specs.Children
pub use Rattle.mp4_frame.specs.OneChild
pub use Rattle.mp4_frame.specs.OptionalChild
pub use Rattle.mp4_frame.specs.FieldsThenChild
-- names, formats, and types that hold boxes of several types
unfoldable pub use Rattle.mp4_frame.specs.BoxType.{name_of}
pub use Rattle.mp4_frame.specs.BoxType.{code_of, is_disguised, name_of-code_of, code_of-name_of}
pub use Rattle.mp4_frame.specs.declared.box_type.BoxType.{BoxType}
pub use Rattle.mp4_frame.specs.declared.box_type.BoxType.TheVariants as names
pub use Rattle.mp4_frame.specs.declared.codes.TheConstants as codes
pub use Rattle.mp4_frame.specs.declared.error.Error.TheVariants as errors
pub use Rattle.mp4_frame.specs.Format.{Format, IsBox, write_laws}
pub use Rattle.mp4_frame.specs.Laws.{OwnName, ReadsBack, AreBytes}
pub use Rattle.mp4_frame.specs.Members.{Kind, Known, Unknown, Is, kind, is_known, reading_known, Held, holds}
pub use Rattle.mp4_frame.specs.Members.{format_held, NamedAsRead, Inside, boxed, held_inside}
pub use Rattle.mp4_compose.specs.Coded.{known_if, of_code}
-- the laws of a box of fields
pub use Rattle.mp4_frame.proofs.Fields.{found, length-fields, number-fields, number-fields_alone, numbers-fields}
pub use Rattle.mp4_frame.proofs.Fields.{expect_bytes-fields, number-below}
pub use Rattle.mp4_frame.proofs.Framing.{header_of_fields, header_in_front, own_normal_form, Number, Signed8, Signed16}
pub use Rattle.mp4_frame.proofs.Framing.{Signed32, Fitting, fits_read}
pub use Rattle.mp4_frame.proofs.Rows.{one_run_again, one_run_is, by_version_again, by_version_is}
pub use Rattle.mp4_frame.proofs.Checks.{past, past_check, expect_bytes_ok, check_ok, is_value, are_bytes-drop, reads_ok}
pub use Rattle.mp4_frame.proofs.Checks.{reads_back}
pub use Rattle.mp4_frame.proofs.NoMemory.{bind_takes_none, expect_bytes_takes_none, check_takes_none, fields_take_none}
pub use Rattle.mp4_flat.specs.TimeLaws.{each_version, timed_back, timed_is, timed_takes_none}
-- the laws of a box with a list
pub use Rattle.mp4_lemmas.proofs.Lists.{length_flat, map_back}
pub use Rattle.mp4_frame.proofs.Tables.{IsRow, map_all, value_first, rows_at_back, rows_read}
pub use Rattle.mp4_frame.proofs.TableLaws.{IsEntry, number_entry, TableOf, format_table, laws_table}
pub use Rattle.mp4_tables.specs.EntryLaws.{fields_back}
pub use Rattle.mp4_declared.specs.LayoutLaws.{laws_in, entry_laws}
pub use Rattle.mp4_declared.specs.ShapeLaws.{IsShape}
pub use Rattle.mp4_declared.specs.OwnBoxLaws.{laws_declared, laws_checked}
pub use Rattle.mp4_tables.specs.RowsLaws.{rows_within_back, rows_within_read}
-- the laws of a box with children
pub use Rattle.mp4_frame.proofs.ChildLaws
pub use Rattle.mp4_frame.proofs.OneChildLaws
pub use Rattle.mp4_frame.proofs.FieldsThenChildLaws
-- the laws of a type that holds boxes of several types
pub use Rattle.mp4_frame.specs.MemberLaws.{IsMember, member, written_member, own_name_of_member, read_back_of_member}
pub use Rattle.mp4_compose.specs.MemberLaws.{own_code, stable_member, code_of_member}
pub use Rattle.mp4_compose.specs.Stable.{ReadsStably, ReadsOwnCode}
