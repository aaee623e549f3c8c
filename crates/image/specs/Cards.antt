-- What an image's bytes hold.
use Rattle.std.specs.Prelude.{ℕ, ◌+◌, ◌-◌, List, Option}
use Rattle.model.specs.declared.Direction.{Direction}
use Rattle.format.specs.Format.{Tables, tables, is_due}
use Rattle.format.specs.Faults.{entry_ok, first}
use Rattle.image.specs.declared.card.Card.{Card}

abbrev pub bytes_of : Card → List ℕ
bytes_of c = c.bytes.now

abbrev pub tables_of : Card → Tables
tables_of c = tables c.bytes.now

-- the first entry at fault of the row of a
abbrev pub bad_in_row : Tables → Direction → ℕ → Option ℕ
bad_in_row t d a = first (entry_ok (t.entry d) t.edges (is_due t d a) (t.start d a)) (t.start d a) (t.start d (a + 1) - t.start d a)
