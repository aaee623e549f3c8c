-- What a graph under a view means.
use Rattle.model.specs.Model.{Model, Lawful}
use Rattle.model.specs.Sets.{in_bits}
use Rattle.model.specs.Views.{reversed, keep_nodes, keep_edges}
use Rattle.model.proofs.Views.{reversed_lawful, nodes_lawful, edges_lawful}
use Rattle.replay.specs.declared.viewed.Viewed.{Viewed}
use Rattle.replay.specs.declared.viewed.Viewed.TheVariants.{Plain, Reversed, Nodes, Edges}

module _ {G : Type 0} (m : G → Model) where
  abbrev pub viewed : Viewed G → Model
  viewed (Plain g) = m g
  viewed (Reversed v) = reversed (m v.0)
  viewed (Nodes v) = keep_nodes (in_bits 8 v.1.0.now) (m v.0)
  viewed (Edges v) = keep_edges (in_bits 8 v.1.0.now) (m v.0)

  pub viewed_lawful : ((g : G) → Lawful (m g)) → (v : Viewed G) → Lawful (viewed v)
  viewed_lawful l (Plain g) = l g
  viewed_lawful l (Reversed v) = reversed_lawful (m v.0) (l v.0)
  viewed_lawful l (Nodes v) = nodes_lawful (in_bits 8 v.1.0.now) (m v.0) (l v.0)
  viewed_lawful l (Edges v) = edges_lawful (in_bits 8 v.1.0.now) (m v.0) (l v.0)
