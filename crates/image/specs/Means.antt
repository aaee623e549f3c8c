-- What an image means, and what `open` promises.
use Rattle.std.specs.Prelude.{◌≡◌, ℕ, List, Some, None}
use Rattle.model.specs.Model.{Model, Lawful}
use Rattle.format.specs.Format.{tables, graph, WellFormed}
use Rattle.format.specs.Faults.{fault}
use Rattle.image.specs.declared.fault.ImageFault.{ImageFault}
use Rattle.image.specs.declared.opened.Image.{Image}
use Rattle.image.specs.Cards.{tables_of}
use Rattle.image.specs.Told.{told}

-- the graph that the image's bytes describe
abbrev pub means : Image → Model
means i = graph (tables_of i.rows.card)

-- the bytes were accepted
pub record Accepted (b : List ℕ) : Type 0 where
  pub accepted : fault b ≡ None
  pub formed : WellFormed b
  pub lawful : Lawful (graph (tables b))

-- the bytes were accepted, and the image holds their graph
pub record Opened (b : List ℕ) (i : Image) : Type 0 where
  pub sound : Accepted b
  pub graph_of : means i ≡ graph (tables b)

-- the bytes were refused, with their first fault
pub record Refused (b : List ℕ) (f : ImageFault) : Type 0 where
  pub first : fault b ≡ Some (told f)
  pub malformed : WellFormed b → ⊥
