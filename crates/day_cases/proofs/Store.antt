-- The cases of a store hold, by computation. Assumes nothing.
use mathlib.Core.Path.{◌≡◌, refl}
use mathlib.Core.List.{map}
use lib.Count.{count_leading_zeros}
use lib.Ieee.{of_bits, of_fields, of_int, odd, size, round, lt, le}
use Rattle.float.specs.Small.{finite, abs_of}
use Rattle.words.specs.Words.{word_from, float_from}
use Rattle.moves.specs.Moves.{nearby}
use Rattle.tables.specs.Refusal.{number, value, unless, first_of}
use Rattle.record.specs.Layout.{record_with, record_from}
use Rattle.record.specs.Readable.{finite_record, within, on_side, readable}
use Rattle.store_slots.specs.Slots.{free_bytes, same, is_free, slots_from, flat, first_where, bad_slot}
use Rattle.store.specs.Store.{good_new, call_checks, live_slots, closed_up, answer_of, slots_after, finished, call_of}
use Rattle.face_store.specs.Face.{stored_packed}
use Rattle.cases.specs.Case.{Case}
use Rattle.cases.specs.MapM.{old_m, bytes_m, minimum_m}
use Rattle.day_cases.specs.Store.{damaged, told_case, left_case, answers, refusals, left}

pub store_answers_hold : map (λ (c : Case). c.given) answers ≡ map (λ (c : Case). c.due) answers
unfolding answers told_case damaged old_m bytes_m minimum_m stored_packed number value unless first_of call_of finished call_checks answer_of slots_after closed_up live_slots good_new bad_slot first_where flat slots_from is_free same free_bytes readable on_side within finite_record record_from record_with nearby float_from word_from finite abs_of of_bits of_fields of_int odd size round lt le count_leading_zeros
store_answers_hold = refl

pub store_refusals_hold : map (λ (c : Case). c.given) refusals ≡ map (λ (c : Case). c.due) refusals
unfolding refusals told_case damaged old_m bytes_m minimum_m stored_packed number value unless first_of call_of finished call_checks answer_of slots_after closed_up live_slots good_new bad_slot first_where flat slots_from is_free same free_bytes readable on_side within finite_record record_from record_with nearby float_from word_from finite abs_of of_bits of_fields of_int odd size round lt le count_leading_zeros
store_refusals_hold = refl

pub store_left_hold : map (λ (c : Case). c.given) left ≡ map (λ (c : Case). c.due) left
unfolding left left_case damaged old_m bytes_m minimum_m stored_packed number value unless first_of call_of finished call_checks answer_of slots_after closed_up live_slots good_new bad_slot first_where flat slots_from is_free same free_bytes readable on_side within finite_record record_from record_with nearby float_from word_from finite abs_of of_bits of_fields of_int odd size round lt le count_leading_zeros
store_left_hold = refl
