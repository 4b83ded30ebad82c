-- No report and no line of a fault is longer than the buffer that it is put in.
use Rattle.std.proofs.Common.{◌≡◌, ℕ, zero, suc, ◌+◌, ◌*◌, ◌/◌, ◌%◌, ◌≤◌, Bool, true, false, List, [], ◌∷◌, ◌++◌, length, Err, refl, arith, ◌==◌, length-append, cond, map}
use Rattle.std.specs.Prelude.{codes, if◌then◌else◌}
use Rattle.std.specs.Fmt.{decimal, digits, digits_onto, digit_glyph}
use Rattle.statements.specs.declared.fault.Fault.{Fault}
use Rattle.statements.specs.declared.fault.Fault.TheVariants.{Memory}
use Rattle.std.proofs.lemmas.List.FromFn.{length-map-range_with_len}
use Rattle.std.specs.List.{range_with_len}
use Rattle.points.specs.Scenarios.{entry}
use Rattle.rules.specs.declared.row.Row.{Row}
use Rattle.rules.specs.Costs.{charge, sheet_bound}
use Rattle.rules.specs.Steps.{Rules, best_cost, finished, searched}
use Rattle.reports.specs.Account.{account_of, report_on}
use Rattle.settlement.specs.Ends.{ShortTexts}
use Rattle.files.specs.Faults.{SheetFault, fault_number, fault_field}
use Rattle.reports.specs.Faults.{fault_line}
use Rattle.reports.specs.Lines.{Print, item_line, person_line, lines_from, report_of, PutsOrWants}

digits_short : (k base : ℕ) (upper : Bool) (n : ℕ) (acc : List ℕ) → length (digits_onto k base upper n acc) ≤ k + length acc
digits_short zero base upper n acc = omega arith
digits_short (suc k) base upper n acc = by (n / base == 0) (digits_short k base upper (n / base) (digit_glyph upper (n % base) ∷ acc))
  where
    by : (b : Bool) → length (digits_onto k base upper (n / base) (digit_glyph upper (n % base) ∷ acc)) ≤ k + suc (length acc)
        → length (if b then digit_glyph upper (n % base) ∷ acc else digits_onto k base upper (n / base) (digit_glyph upper (n % base) ∷ acc)) ≤ suc k + length acc
    by true h = omega arith
    by false h = omega (arith, h)

-- a number has at most 64 digits
pub decimal_short : (n : ℕ) → length (decimal n) ≤ 64
unfolding digits
decimal_short n = omega (arith, digits_short 64 10 false n [])

-- two numbers with a byte between them
pub pair_short : (b m n : ℕ) → length (decimal m ++ b ∷ decimal n) ≤ 129
pair_short b m n = simp length-append (omega (arith, decimal_short m, decimal_short n))

-- the lines of a report, where values and costs have texts of at most 129 bytes
module _ {V C : Type 0} (p : Print V C) (values_short : ShortTexts p.value) (costs_short : ShortTexts p.cost) where
  item_short : (i : ℕ) (v : V) → length (item_line p i v) ≤ 210
  item_short i v = simp length-append (omega (arith, decimal_short i, values_short v))

  person_short : (nothing : C → Bool) (i : ℕ) (c : C) → length (person_line p nothing i c) ≤ 210
  person_short nothing i c = by (nothing c)
    where
      by : (b : Bool) → length (cond b [] (codes "person " ++ decimal i ++ codes " charge " ++ p.cost c ++ (10 ∷ []))) ≤ 210
      by true = omega arith
      by false = simp length-append (omega (arith, decimal_short i, costs_short c))

  lines_short : {X : Type 0} (line : ℕ → X → List ℕ) → ((i : ℕ) (x : X) → length (line i x) ≤ 210) → (i : ℕ) (xs : List X) → length (lines_from line i xs) ≤ 210 * length xs
  lines_short line s i [] = omega arith
  lines_short line s i (x ∷ xs) = simp length-append (omega (arith, s i x, lines_short line s (i + 1) xs))

  pub report_short : (nothing : C → Bool) (number : ℕ) (values : List V) (cost floor : C) (finished : Bool) (charges : List C) → length values ≤ 12 → length charges ≤ 20
      → length (report_of p nothing number values cost floor finished charges) ≤ 8192
  report_short nothing number values cost floor true charges few persons = simp length-append (omega (arith, few, persons, decimal_short number, decimal_short (length values), costs_short cost, costs_short floor, lines_short (item_line p) item_short 1 values, lines_short (person_line p nothing) (person_short nothing) 1 charges))
  report_short nothing number values cost floor false charges few persons = simp length-append (omega (arith, few, persons, decimal_short number, decimal_short (length values), costs_short cost, costs_short floor, lines_short (item_line p) item_short 1 values, lines_short (person_line p nothing) (person_short nothing) 1 charges))

pub account_short : {V C : Type 0} (p : Print V C) → ShortTexts p.value → ShortTexts p.cost → (nothing : C → Bool) (number : ℕ) (values : ℕ → List ℕ → ℕ → V) (r : Rules C) (steps n : ℕ) (rows : List Row) → n ≤ 12
    → length (report_on p nothing number (account_of values r steps n rows)) ≤ 8192
unfolding account_of
account_short p u w nothing number values r steps n rows few =
    let s = searched r n rows steps in
    report_short p u w nothing number (map (values n s.incumbent) (range_with_len 0 n)) (best_cost r rows s) (sheet_bound r.joining r.at_most r.codes n rows) (finished r n s)
    (map (charge r.joining rows (entry s.incumbent)) (range_with_len 1 20))
    (omega (arith, few, length-map-range_with_len (values n s.incumbent) 0 n))
    (omega (arith, length-map-range_with_len (charge r.joining rows (entry s.incumbent)) 1 20))

pub fault_short : (f : SheetFault) → length (fault_line f) ≤ 512
fault_short f = simp length-append (omega (arith, decimal_short (fault_number f.fault), decimal_short f.place.sheet, decimal_short f.place.line, decimal_short (fault_field f.fault)))

-- A text that fits is refused only for want of memory.
pub only_memory : (text old new : List ℕ) (f : Fault) → length text ≤ length old → PutsOrWants text old new (Err f) → f ≡ Memory
only_memory text old new Memory fits p = refl
only_memory text old new f fits p = absurd (omega (arith, fits, p.1))
