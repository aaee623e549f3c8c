-- What views do to paths, and views that change nothing. Assumes nothing.
use Rattle.std.proofs.Common.{◌≡◌, ℕ, ◌<◌, true, false, cond, ◌&&◌, List, [], ◌∷◌, Some, None, sym, refl, ap, ◌∙◌, inl, inr, ⊎_elim}
use mathlib.Core.Path.{fun_ext}
use Rattle.std.proofs.lemmas.Bool.{cases_Bool, and_parts, and_from}
use Rattle.model.specs.declared.Direction.{Direction}
use Rattle.model.specs.declared.Direction.TheVariants.{Outgoing, Incoming}
use Rattle.model.specs.Model.{Entry, Ends, Model, Lawful, Far}
use Rattle.model.specs.Paths.{Leads, Step, Follows, In, edges_of, nodes_of}
use Rattle.model.specs.Sets.{Set}
use Rattle.model.specs.Views.{opposite, turned, keep, both, keep_nodes, keep_edges, ReversedTwice, NodeFilterPaths, EdgeFilterPaths, WholeFilters}
use Rattle.model.proofs.Entries.{leads_far}
use Rattle.model.proofs.Keeps.{keep_all, keep_leads, leads_keep}
use Rattle.model.proofs.Models.{leads_present, absent_row}

-- a model with other nodes, ends and rows
abbrev with_parts : Model → Set → (ℕ → Ends) → (Direction → ℕ → List Entry) → Model
with_parts m p e r = record { kind = m.kind; nodes = m.nodes; edges = m.edges; present = p; ends = e; row = r }

same_parts : (m : Model) (p p' : Set) (e e' : ℕ → Ends) (r r' : Direction → ℕ → List Entry) → p ≡ p' → e ≡ e' → r ≡ r' → with_parts m p e r ≡ with_parts m p' e' r'
same_parts m p p' e e' r r' a b c = ap (λ x. with_parts m x e r) a ∙ ap (λ x. with_parts m p' x r) b ∙ ap (with_parts m p' e') c

turned_twice : (o : Ends) → turned (turned o) ≡ o
turned_twice None = refl
turned_twice (Some (t, h)) = refl

row_twice : (m : Model) (d : Direction) → (λ (a : ℕ). m.row (opposite (opposite d)) a) ≡ m.row d
row_twice m Outgoing = refl
row_twice m Incoming = refl

pub reversed_twice : ReversedTwice
reversed_twice m =
    same_parts m m.present m.present (λ e. turned (turned (m.ends e))) m.ends (λ d a. m.row (opposite (opposite d)) a) m.row
    refl (fun_ext (λ e. turned_twice (m.ends e))) (fun_ext (λ d. row_twice m d))

-- Paths in a node filter.

module _ (has : Set) (m : Model) where
  node_leads_down : (a e b : ℕ) → Leads e b ((keep_nodes has m).row Outgoing a) → Leads e b (m.row Outgoing a) × (has b ≡ true)
  node_leads_down a e b i =
      ⊎_elim
      (λ (y : has a ≡ true).
      let k = keep_leads (λ x. has x.2) e b (m.row Outgoing a) (rw y at i) in
      (k.0, ap has (sym k.1.1.1) ∙ k.1.1.2))
      (λ (n : has a ≡ false). let z : Leads e b [] = rw n at i in absurd z)
      (cases_Bool (has a))

  node_down : (a : ℕ) (s : List Step) (b : ℕ) → Follows (keep_nodes has m) a s b → Follows m a s b × ((v : ℕ) → In v (nodes_of s) → has v ≡ true)
  node_down a [] b f = (f, λ v i. absurd i)
  node_down a (x ∷ s) b f =
      let k = node_leads_down a x.0 x.1 f.0 in
      let r = node_down x.1 s b f.1 in
      ((k.0, r.0), λ v i. ⊎_elim (λ (q : v ≡ x.1). ap has q ∙ k.1) (λ (j : In v (nodes_of s)). r.1 v j) i)

  node_up : (a : ℕ) (s : List Step) (b : ℕ) → has a ≡ true → Follows m a s b → ((v : ℕ) → In v (nodes_of s) → has v ≡ true) → Follows (keep_nodes has m) a s b
  node_up a [] b y f h = f
  node_up a (x ∷ s) b y f h =
      let z = h x.1 (inl refl) in
      let i : Leads x.0 x.1 (keep (λ x. has x.2) (m.row Outgoing a)) = leads_keep (λ x. has x.2) x.0 x.1 (m.row Outgoing a) f.0 (λ w _ q. ap has q ∙ z) in
      (rw y i, node_up x.1 s b z f.1 (λ v j. h v (inr j)))

  edge_down : (a : ℕ) (s : List Step) (b : ℕ) → Follows (keep_edges has m) a s b → Follows m a s b × ((e : ℕ) → In e (edges_of s) → has e ≡ true)
  edge_down a [] b f = (f, λ e i. absurd i)
  edge_down a (x ∷ s) b f =
      let k = keep_leads (λ x. has x.1) x.0 x.1 (m.row Outgoing a) f.0 in
      let y = ap has (sym k.1.1.0) ∙ k.1.1.2 in
      let r = edge_down x.1 s b f.1 in
      ((k.0, r.0), λ e i. ⊎_elim (λ (q : e ≡ x.0). ap has q ∙ y) (λ (j : In e (edges_of s)). r.1 e j) i)

  edge_up : (a : ℕ) (s : List Step) (b : ℕ) → Follows m a s b → ((e : ℕ) → In e (edges_of s) → has e ≡ true) → Follows (keep_edges has m) a s b
  edge_up a [] b f h = f
  edge_up a (x ∷ s) b f h = (
    leads_keep (λ x. has x.1) x.0 x.1 (m.row Outgoing a) f.0 (λ w q _. ap has q ∙ h x.0 (inl refl)),
    edge_up x.1 s b f.1 (λ e j. h e (inr j)),
  )

pub node_paths : NodeFilterPaths
node_paths has m a s b = record {
  down = λ p.
      let k = and_parts (m.present a) (has a) p.start in
      let f = node_down has m a s b p.steps in
      (record { start = k.0; steps = f.0 }, λ v t. ⊎_elim (λ (q : v ≡ a). ap has q ∙ k.1) (λ (i : In v (nodes_of s)). f.1 v i) t);
  up = λ p h.
      let y = h a (inl refl) in
      record { start = and_from (m.present a) (has a) p.start y; steps = node_up has m a s b y p.steps (λ v i. h v (inr i)) };
}

pub edge_paths : EdgeFilterPaths
edge_paths has m a s b = record {
  down = λ p. let f = edge_down has m a s b p.steps in (record { start = p.start; steps = f.0 }, f.1);
  up = λ p h. record { start = p.start; steps = edge_up has m a s b p.steps h };
}

-- Filters that keep all.

module _ (has : Set) (m : Model) (w : Lawful m) where
  module _ (all : (a : ℕ) → a < m.nodes → has a ≡ true) where
    present_kept : (a : ℕ) → m.present a ≡ true → has a ≡ true
    present_kept a y = all a (w.within a y)

    all_present : (a : ℕ) → (m.present a && has a) ≡ m.present a
    all_present a =
        ⊎_elim
        (λ (y : m.present a ≡ true). rw (y, present_kept a y))
        (λ (n : m.present a ≡ false). rw n)
        (cases_Bool (m.present a))

    all_ends : (e : ℕ) (o : Ends) → m.ends e ≡ o → both has o ≡ o
    all_ends e None is = refl
    all_ends e (Some (t, h)) is = let k = w.known e t h is in rw (present_kept t k.1, present_kept h k.2)

    all_row : (d : Direction) (a : ℕ) → cond (has a) (keep (λ x. has x.2) (m.row d a)) [] ≡ m.row d a
    all_row d a =
        ⊎_elim
        (λ (y : m.present a ≡ true). rw (present_kept a y) (keep_all (λ x. has x.2) (m.row d a) (λ e b x i _ q. ap has q ∙ present_kept b (leads_present m w d e a b i).1)))
        (λ (n : m.present a ≡ false). rw (absent_row m w d a n) (elim (has a) as (λ t. ◌≡◌ {A = List Entry} (cond t [] []) []) [ true ↦ refl | false ↦ refl ]))
        (cases_Bool (m.present a))

    all_nodes : keep_nodes has m ≡ m
    all_nodes = same_parts m _ m.present _ m.ends _ m.row (fun_ext all_present) (fun_ext (λ e. all_ends e (m.ends e) refl)) (fun_ext (λ d. fun_ext (λ a. all_row d a)))

  module _ (all : (e : ℕ) → e < m.edges → has e ≡ true) where
    edge_ends : (e : ℕ) (o : Ends) → m.ends e ≡ o → cond (has e) o None ≡ o
    edge_ends e None is = elim (has e) as (λ t. ◌≡◌ {A = Ends} (cond t None None) None) [ true ↦ refl | false ↦ refl ]
    edge_ends e (Some (t, h)) is = rw (all e (w.known e t h is).0)

    far_known : (a b e : ℕ) (o : Ends) → m.ends e ≡ o → Far o a b → has e ≡ true
    far_known a b e None is f = absurd f
    far_known a b e (Some (t, h)) is f = all e (w.known e t h is).0

    edge_row : (d : Direction) (a : ℕ) → keep (λ x. has x.1) (m.row d a) ≡ m.row d a
    edge_row d a = keep_all (λ x. has x.1) (m.row d a) (λ e b x i q _. ap has q ∙ far_known a b e (m.ends e) refl (leads_far m.ends a (m.row d a) e b (w.rows d a).fars i))

    all_edges : keep_edges has m ≡ m
    all_edges = same_parts m m.present m.present _ m.ends _ m.row refl (fun_ext (λ e. edge_ends e (m.ends e) refl)) (fun_ext (λ d. fun_ext (λ a. edge_row d a)))

pub whole_filters : WholeFilters
whole_filters has m w = record { nodes = all_nodes has m w; edges = all_edges has m w }
