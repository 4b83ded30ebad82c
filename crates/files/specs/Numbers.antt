-- What a number is in a file.
use Rattle.std.specs.Prelude.{ℕ, ◌+◌, ◌-◌, ◌*◌, Bool, not, ◌&&◌, ◌||◌, List, length, fold, Result, ◌==◌, nat_le, slice_index}
use Rattle.std.specs.Char.{is_ascii_digit}
use Rattle.std.specs.List.{list_all}
use Rattle.files.specs.declared.fault.FieldFault.{FieldFault}
use Rattle.files.specs.declared.fault.FieldFault.TheVariants.{NotNumber}
use Rattle.files.specs.Faults.{given}

-- the number that digits write (of digits the same as `digits_value 10` of the library, with which the proof of `digits` would be longer)
abbrev pub value_of : List ℕ → ℕ
value_of bs = fold (λ n b. n * 10 + (b - 48)) 0 bs

-- a field is a number: one to six digits of which the first is not 0, or 0 alone
unfoldable pub is_number : List ℕ → Bool
is_number bs =
    nat_le 1 (length bs) && nat_le (length bs) 6 && list_all is_ascii_digit bs && (not (slice_index bs 0 == 48) || length bs == 1)

-- the number that a field is, or the fault that it is none
abbrev pub number_in : List ℕ → Result ℕ FieldFault
number_in field = given (is_number field) (value_of field) NotNumber
