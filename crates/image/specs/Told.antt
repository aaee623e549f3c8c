-- What a fault tells: its number and the byte offset of the first field at fault.
use Rattle.std.specs.Prelude.{ℕ, ◌+◌, ◌*◌, List, ◌++◌, codes, Some, None, Option}
use Rattle.std.specs.Fmt.{decimal}
use Rattle.format.specs.Faults.{Fault}
use Rattle.image.specs.declared.fault.ImageFault.{ImageFault}
use Rattle.image.specs.declared.fault.ImageFault.TheVariants.{Short, Kind, Limit, Table, End, Start, Entry}

abbrev pub told : ImageFault → Fault
told (Short o) = (1, o)
told (Kind o) = (2, o)
told (Limit o) = (3, o)
told (Table o) = (4, o)
told (End o) = (5, o)
told (Start o) = (6, o)
told (Entry o) = (7, o)

-- the exported check's answer: 0, or the number times 2^32 plus the offset
abbrev pub answered : Option Fault → ℕ
answered None = 0
answered (Some (k, o)) = k * 4294967296 + o

-- a fault as a line of text
abbrev pub told_text : Fault → List ℕ
told_text (k, o) = codes "refused " ++ (decimal k ++ (codes " at byte " ++ decimal o))
