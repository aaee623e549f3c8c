-- Plans, in the words of blocks and links. Assumes nothing.
use Rattle.std.proofs.Common.{◌≡◌, ℕ, Bool, true, false, cond, List, [], ◌∷◌, sym, refl, ap, ◌∙◌, subst}
use Rattle.std.proofs.lemmas.Bool.{and_parts}
use Rattle.model.specs.declared.Direction.TheVariants.{Outgoing, Incoming}
use Rattle.model.specs.Model.{Model, Lawful}
use Rattle.model.specs.Paths.{Leads, Step, Follows, Path, CycleAt}
use Rattle.model.specs.Sets.{Set}
use Rattle.model.specs.Views.{keep_nodes, keep}
use Rattle.model.proofs.Models.{leads_present}
use Rattle.model.proofs.Keeps.{keep_leads, leads_keep}
use Rattle.model.proofs.Views.{reversed_lawful, nodes_lawful}
use Rattle.theory.proofs.Models.{orders_law}
use Rattle.plan.specs.Plans.{Before, plan_graph, Waits, one, more, PlansLaw}

module _ (g : Model) (w : Lawful g) (changed : Set) where
  abbrev pg : Model
  pg = plan_graph changed g

  pg_lawful : Lawful pg
  pg_lawful = reversed_lawful (keep_nodes changed g) (nodes_lawful changed g w)

  -- an edge of the graph that is ordered is a link between changed blocks
  edge_link : (e b a : ℕ) → Leads e a (pg.row Outgoing b) → (changed b ≡ true) × (changed a ≡ true) × Before g b a
  edge_link e b a l = go (changed b) refl l
    where
      go : (t : Bool) → changed b ≡ t → Leads e a (cond t (keep (λ x. changed x.2) (g.row Incoming b)) []) → (changed b ≡ true) × (changed a ≡ true) × Before g b a
      go true k l =
          let p = keep_leads (λ x. changed x.2) e a (g.row Incoming b) l in
          (k, ap changed (sym p.1.1.1) ∙ p.1.1.2, (e, p.0))
      go false k l = absurd l

  link_edge : (b a : ℕ) → changed b ≡ true → changed a ≡ true → (l : Before g b a) → Leads l.0 a (pg.row Outgoing b)
  link_edge b a kb ka l =
      let P : Bool → Type 0 = λ t. Leads l.0 a (cond t (keep (λ x. changed x.2) (g.row Incoming b)) []) in
      subst P (sym kb) (leads_keep (λ x. changed x.2) l.0 a (g.row Incoming b) l.1 (λ x _ q. ap changed q ∙ ka))

  -- a path back from b to a, read from its end: a waits for b
  path_waits : (b : ℕ) (s : List Step) (c : ℕ) → Follows pg b s c → (a : ℕ) → Waits g changed a c → Waits g changed a b
  path_waits b [] c f a t = rw f t
  path_waits b (x ∷ s) c f a t =
      let k = edge_link x.0 b x.1 f.0 in
      more (path_waits x.1 s c f.1 a t) k.0 k.2

  cycle_waits : (a : ℕ) → CycleAt pg a → Waits g changed a a
  cycle_waits a c = back c.0 c.1.0 c.1.1.steps
    where
      -- the last step of the cycle comes first
      split : (b : ℕ) (x : Step) (s : List Step) → Follows pg b (x ∷ s) a → Waits g changed a b
      split b x [] f = let k = edge_link x.0 b x.1 f.0 in let q = f.1 in let P : ℕ → Type 0 = λ v. Waits g changed v b in subst P q (one k.1 k.0 k.2)
      split b x (y ∷ s) f = let k = edge_link x.0 b x.1 f.0 in more (split x.1 y s f.1) k.0 k.2

      back : (x : Step) (s : List Step) → Follows pg a (x ∷ s) a → Waits g changed a a
      back x s f = split a x s f

  -- a that waits for b is on a path from b
  waits_path : (a b : ℕ) → Waits g changed a b → (x : Step) × ((s : List Step) × Path pg b (x ∷ s) a)
  waits_path a b (one ka kb l) =
      let e = link_edge b a kb ka l in
      ((l.0, a), ([], record { start = (leads_present pg pg_lawful Outgoing l.0 b a e).0; steps = (e, refl) }))
  waits_path a b (more {b = m} t kc l) =
      let p = waits_path a m t in
      let km = known a m t in
      let e = link_edge b m kc km l in
      ((l.0, m), (p.0 ∷ p.1.0, record { start = (leads_present pg pg_lawful Outgoing l.0 b m e).0; steps = (e, p.1.1.steps) }))
    where
      known : (a b : ℕ) → Waits g changed a b → changed b ≡ true
      known a b (one ka kb l) = kb
      known a b (more t kc l) = kc

pub plans_law : PlansLaw
plans_law g w changed =
    let pw = pg_lawful g w changed in
    let o = orders_law (plan_graph changed g) pw in
    record {
      order = λ e.
          let t = o.valid e in
          record {
            once = t.once;
            all = λ a k c. t.all a (rw (k, c));
            only = λ a i. and_parts (g.present a) (changed a) (t.only a i);
            after = λ a b ka kb l. t.forward l.0 b a (link_edge g w changed b a kb ka l);
            acyclic = λ a v. o.told a (waits_path g w changed a a v) e;
          };
      cycle = λ a e. cycle_waits g w changed a (o.on_cycle a e);
    }
