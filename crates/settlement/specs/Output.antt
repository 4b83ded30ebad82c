-- All that is printed of a file: the reports of its sheets up to its first fault, and the line of the fault.
use Rattle.std.specs.Prelude.{ℕ, List, [], ◌++◌, Some, None, Option}
use Rattle.std.specs.List.{All}
use Rattle.rules.specs.Soundness.{rules}
use Rattle.rules.specs.Steps.{Rules, searched}
use Rattle.files.specs.declared.head.Head.{Head}
use Rattle.files.specs.Faults.{SheetFault}
use Rattle.files.specs.Files.{Sheet, file_fault, sheets_of, sheets_before}
use Rattle.files.specs.Views.{Contents, contents}
use Rattle.reports.specs.Account.{AccountLaw, account_of, report_on}
use Rattle.reports.specs.Faults.{fault_line}
use Rattle.reports.specs.Lines.{print, lines_from}
use Rattle.reports.specs.Spellings.{spelling_of}
use Rattle.settlement.specs.Named.{OfKind, OfTally, by_head}

-- each sheet is given a million steps
abbrev pub steps : ℕ
steps = 1000000

-- the rules by which it is searched
abbrev pub rules_of : {V C : Type 0} → OfKind V → OfTally C → Rules C
rules_of k t = rules k.meaning k.fit t.joining t.order

-- the report of the n-th sheet of a file, of so many items and with these rows
unfoldable pub report_as : {V C : Type 0} → OfKind V → OfTally C → ℕ → Contents → List ℕ
report_as k t n c =
    report_on (print k.letter t.letter k.text t.text) (λ x. t.order x t.joining.empty) n (account_of k.values (rules_of k t) steps c.items c.rows)

-- what is promised of what it reports
unfoldable pub ReliableAs : {V C : Type 0} → OfKind V → OfTally C → Contents → Type 0
ReliableAs k t c =
    AccountLaw k.meaning (rules_of k t) c.items c.rows (searched (rules_of k t) c.items c.rows steps) (account_of k.values (rules_of k t) steps c.items c.rows)

-- the report of the n-th sheet of a file, which stands below this head
abbrev pub report_below : Head → ℕ → Contents → List ℕ
report_below h n c = by_head h (λ V C k t. report_as k t n c)

-- the same of a sheet as it stands in its file
unfoldable pub sheet_report : ℕ → Sheet → List ℕ
sheet_report n t = report_below t.head n (contents t.head.size t.rows)

-- and what is promised of what it reports
abbrev pub ReliableBelow : Head → Contents → Type 0
ReliableBelow h c = by_head h (λ V C k t. ReliableAs k t c)

-- the same of a sheet as it stands in its file
unfoldable pub Reliable : Sheet → Type 0
Reliable t = ReliableBelow t.head (contents t.head.size t.rows)

-- the first fault of a file, as the programs read it, and the sheets before it
abbrev pub fault_of : List ℕ → Option SheetFault
fault_of file = file_fault spelling_of file

unfoldable pub settled_sheets : List ℕ → List Sheet
settled_sheets file = sheets_before (fault_of file) (sheets_of spelling_of file)

-- their reports, the first counted as 1
abbrev pub reports_in : List ℕ → List ℕ
reports_in file = lines_from sheet_report 1 (settled_sheets file)

-- the line of the fault, if there is one
abbrev pub fault_text : Option SheetFault → List ℕ
fault_text (Some f) = fault_line f
fault_text None = []

-- All that is printed of a file: the reports of the sheets before its first fault, and the line of the fault.
abbrev pub output_of : List ℕ → List ℕ
output_of file = reports_in file ++ fault_text (fault_of file)

-- each sheet before the file's first fault is reported reliably
abbrev pub AllReliable : List ℕ → Type 0
AllReliable file = All Reliable (settled_sheets file)
