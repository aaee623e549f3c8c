-- A header and a layout as they were read from an image's bytes.
use Rattle.std.specs.Prelude.{◌≡◌, ℕ, ◌+◌, ◌*◌, ◌≤◌, false, List, is_some, length}
use Rattle.model.specs.Model.{most_edges}
use Rattle.model.specs.Kinds.{kind_number}
use Rattle.format.specs.Faults.{fault}
use Rattle.format.specs.Format.{word, tables, total, Room, ends_field}
use Rattle.image.specs.declared.header.Header.{Header}
use Rattle.image.specs.declared.header.Layout.{Layout}

pub record Reads (b : List ℕ) (h : Header) : Type 0 where
  pub kind : kind_number h.kind ≡ word b 0
  pub nodes : h.nodes ≡ word b 4
  pub edges : h.edges ≡ word b 8
  pub ends : h.ends ≡ word b 12
  pub out_starts : h.outgoing.starts ≡ word b 16
  pub out_entries : h.outgoing.entries ≡ word b 20
  pub in_starts : h.incoming.starts ≡ word b 24
  pub in_entries : h.incoming.entries ≡ word b 28

-- every number of the header is 0, and the image is accepted
pub record Blank (b : List ℕ) : Type 0 where
  pub kind : word b 0 ≡ 0
  pub nodes : word b 4 ≡ 0
  pub edges : word b 8 ≡ 0
  pub ends : word b 12 ≡ 0
  pub out_starts : word b 16 ≡ 0
  pub out_entries : word b 20 ≡ 0
  pub in_starts : word b 24 ≡ 0
  pub in_entries : word b 28 ≡ 0
  pub accepted : is_some (fault b) ≡ false

pub record Measures (b : List ℕ) (l : Layout) : Type 0 where
  pub header : Reads b l.header
  pub entries : l.entries ≡ total (tables b)
  pub room : Room b

-- M is in its limit, and the edge table lies inside the bytes
pub record EdgeRoom (b : List ℕ) : Type 0 where
  pub edges : word b 8 ≤ most_edges
  pub ends : word b ends_field + 8 * word b 8 ≤ length b
