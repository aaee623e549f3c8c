-- Searches over what a graph means, and their laws in the words of paths. Assumes nothing.
use Rattle.std.proofs.Common.{◌≡◌, ℕ, zero, suc, ◌+◌, ◌*◌, ◌<◌, ◌≤◌, Bool, true, false, cond, ◌⊎◌, List, [], ◌∷◌, ◌++◌, length, sym, refl, ap, subst, inl, inr, ⊎_elim, arith}
use Rattle.std.proofs.lemmas.Bool.{cases_eq, cond-true}
use Rattle.model.specs.declared.Direction.TheVariants.{Outgoing, Incoming}
use Rattle.model.specs.declared.Kind.{Kind}
use Rattle.model.specs.declared.Kind.TheVariants.{OneWay, TwoWay}
use Rattle.model.specs.Model.{Model, Lawful, Entry, row_limit}
use Rattle.model.specs.Paths.{In, Leads, Step, Follows, Reaches, CycleAt, Later}
use Rattle.model.specs.Sets.{Set, nothing}
use Rattle.model.proofs.Bounds.{row_bound}
use Rattle.model.proofs.Models.{leads_present, mirrored}
use Rattle.model.proofs.Sums.{sum_most}
use Rattle.theory.specs.Search.{Within, Reach, start, along}
use Rattle.theory.specs.Walk.{left}
use Rattle.theory.specs.Order.{Forward, OnCycle, Back, Orders, Names}
use Rattle.theory.specs.Models.{fars, rows_of, back_rows_of, upto, node_list, write_order, OrdersLaw, PathsLaw}
use Rattle.theory.proofs.Paths.{follows_on}
use Rattle.theory.proofs.Forwards.{order_law}
use Rattle.theory.proofs.Names.{name_law}
use Rattle.theory.proofs.Loops.{seen_law}

-- Rows and their far nodes.

pub fars_length : (es : List Entry) → length (fars es) ≡ length es
fars_length [] = refl
fars_length (x ∷ es) = ap suc (fars_length es)

pub fars_leads : (es : List Entry) (y : ℕ) → In y (fars es) → (e : ℕ) × Leads e y es
fars_leads [] y i = absurd i
fars_leads (x ∷ es) y (inl q) = (x.1, inl (refl, sym q))
fars_leads (x ∷ es) y (inr i) = let r = fars_leads es y i in (r.0, inr r.1)

pub leads_fars : (es : List Entry) (e y : ℕ) → Leads e y es → In y (fars es)
leads_fars [] e y i = absurd i
leads_fars (x ∷ es) e y (inl q) = inl (sym q.1)
leads_fars (x ∷ es) e y (inr i) = inr (leads_fars es e y i)

-- The numbers of a set, ascending.

in_snoc : (xs : List ℕ) (x y : ℕ) → In y (xs ++ x ∷ []) → In y xs ⊎ (y ≡ x)
in_snoc [] x y (inl e) = inr e
in_snoc [] x y (inr i) = absurd i
in_snoc (z ∷ xs) x y (inl e) = inl (inl e)
in_snoc (z ∷ xs) x y (inr i) = ⊎_elim (λ (j : In y xs). inl (inr j)) (λ (e : y ≡ x). inr e) (in_snoc xs x y i)

snoc_in : (xs : List ℕ) (x y : ℕ) → In y xs → In y (xs ++ x ∷ [])
snoc_in [] x y i = absurd i
snoc_in (z ∷ xs) x y (inl e) = inl e
snoc_in (z ∷ xs) x y (inr i) = inr (snoc_in xs x y i)

snoc_last : (xs : List ℕ) (x y : ℕ) → y ≡ x → In y (xs ++ x ∷ [])
snoc_last [] x y e = inl e
snoc_last (z ∷ xs) x y e = inr (snoc_last xs x y e)

pub upto_below : (s : Set) (n y : ℕ) → In y (upto s n) → y < n
upto_below s zero y i = absurd i
upto_below s (suc n) y i = go (s n) (upto_below s n y) i
  where
    go : (b : Bool) → (In y (upto s n) → y < n) → In y (cond b (upto s n ++ n ∷ []) (upto s n)) → y < suc n
    go true f i = ⊎_elim (λ (j : In y (upto s n)). let h = f j in omega arith) (λ (e : y ≡ n). omega arith) (in_snoc (upto s n) n y i)
    go false f i = let h = f i in omega arith

pub upto_only : (s : Set) (n y : ℕ) → In y (upto s n) → s y ≡ true
upto_only s zero y i = absurd i
upto_only s (suc n) y i = go (s n) refl (upto_only s n y) i
  where
    go : (b : Bool) → s n ≡ b → (In y (upto s n) → s y ≡ true) → In y (cond b (upto s n ++ n ∷ []) (upto s n)) → s y ≡ true
    go true k f i = ⊎_elim f (λ (e : y ≡ n). rw e k) (in_snoc (upto s n) n y i)
    go false k f i = f i

pub upto_in : (s : Set) (n y : ℕ) → y < n → s y ≡ true → In y (upto s n)
upto_in s zero y h t = absurd (omega arith)
upto_in s (suc n) y h t = ⊎_elim last (λ (d : y ≡ n → ⊥). go (s n) (upto_in s n y (omega arith) t)) (cases_eq y n)
  where
    last : y ≡ n → In y (cond (s n) (upto s n ++ n ∷ []) (upto s n))
    last e =
        let P : List ℕ → Type 0 = In y in
        let k : s n ≡ true = rw (← e) t in
        subst P (sym (cond-true (s n) (upto s n ++ n ∷ []) (upto s n) k)) (snoc_last (upto s n) n y e)

    go : (b : Bool) → In y (upto s n) → In y (cond b (upto s n ++ n ∷ []) (upto s n))
    go true i = snoc_in (upto s n) n y i
    go false i = i

pub upto_plus : (s : Set) (i : ℕ) → upto s (i + 1) ≡ cond (s i) (upto s i ++ i ∷ []) (upto s i)
upto_plus s i = let e : i + 1 ≡ suc i = omega arith in ap (upto s) e

-- Every graph.

module _ (g : Model) (w : Lawful g) where
  pub rows_present : (x y : ℕ) → In y (rows_of g x) → (g.present x ≡ true) × (g.present y ≡ true)
  rows_present x y i = let l = fars_leads (g.row Outgoing x) y i in leads_present g w Outgoing l.0 x y l.1

  pub rows_within : Within (rows_of g) g.nodes
  rows_within x y i = w.within y (rows_present x y i).1

  -- how much the rows of nodes outside a set hold
  pub rows_few : (m : Set) → left (λ y. length (rows_of g y)) m g.nodes ≤ 2 * g.edges
  rows_few m =
      let a = sum_most (λ y. cond (m y) 0 (length (rows_of g y))) (λ y. length (g.row Outgoing y)) g.nodes (λ y _. one y) in
      let b = row_bound g w Outgoing in
      let c = limit g.kind in
      omega arith
    where
      one : (y : ℕ) → cond (m y) 0 (length (rows_of g y)) ≤ length (g.row Outgoing y)
      one y = let l = fars_length (g.row Outgoing y) in elim (m y) as (λ b. cond b 0 (length (rows_of g y)) ≤ length (g.row Outgoing y)) [ true ↦ omega arith | false ↦ omega arith ]

      limit : (k : Kind) → row_limit k g.edges ≤ 2 * g.edges
      limit OneWay = omega arith
      limit TwoWay = omega arith

  pub nodes_below : (y : ℕ) → In y (node_list g) → y < g.nodes
  nodes_below y i = upto_below g.present g.nodes y i

  pub nodes_in : (y : ℕ) → g.present y ≡ true → In y (node_list g)
  nodes_in y k = upto_in g.present g.nodes y (w.within y k) k

  pub back_rows : Back (rows_of g) (back_rows_of g)
  back_rows = record {
    there = λ x y i. let l = fars_leads (g.row Outgoing x) y i in leads_fars (g.row Incoming y) l.0 x ((mirrored g w).out l.0 x y l.1);
    here = λ x y i. let l = fars_leads (g.row Incoming y) x i in leads_fars (g.row Outgoing x) l.0 y ((mirrored g w).back l.0 x y l.1);
  }

  -- paths by rows and by steps
  pub reach_path : (a b : ℕ) → g.present a ≡ true → Reach (rows_of g) nothing a b → Reaches g a b
  reach_path a b k (start n) = ([], record { start = k; steps = refl })
  reach_path a b k (along {x} r i n) =
      let p = reach_path a x k r in
      let l = fars_leads (g.row Outgoing x) b i in
      (p.0 ++ (l.0, b) ∷ [], record { start = k; steps = follows_on g a p.0 x l.0 b p.1.steps l.1 })

  reach_on : (a b : ℕ) → Reach (rows_of g) nothing a b → (s : List Step) (c : ℕ) → Follows g b s c → Reach (rows_of g) nothing a c
  reach_on a b r [] c f = rw (← f) r
  reach_on a b r (x ∷ s) c f = reach_on a x.1 (along r (leads_fars (g.row Outgoing b) x.0 x.1 f.0) refl) s c f.1

  pub path_reach : (a b : ℕ) → Reaches g a b → Reach (rows_of g) nothing a b
  path_reach a b p = reach_on a a (start refl) p.0 b p.1.steps

  cycle_rows : (a : ℕ) → CycleAt g a → OnCycle (rows_of g) a
  cycle_rows a c =
      let x = c.0 in
      let p = c.1.1.steps in
      (x.1, (leads_fars (g.row Outgoing a) x.0 x.1 p.0, reach_on x.1 x.1 (start refl) c.1.0 a p.1))

  rows_cycle : (a : ℕ) → OnCycle (rows_of g) a → CycleAt g a
  rows_cycle a c =
      let b = c.0 in
      let k = rows_present a b c.1.0 in
      let l = fars_leads (g.row Outgoing a) b c.1.0 in
      let p = reach_path b a k.1 c.1.1 in
      ((l.0, b), (p.0, record { start = k.0; steps = (l.1, p.1.steps) }))

  forward_later : (xs : List ℕ) → Forward (rows_of g) xs → (a b : ℕ) → In a xs → In b (rows_of g a) → Later xs a b
  forward_later [] f a b i j = i
  forward_later (x ∷ xs) f a b (inl q) j = inl (q, f.0 b (rw q at j))
  forward_later (x ∷ xs) f a b (inr i) j = inr (forward_later xs f.1 a b i j)

  pub order_laws : Orders (rows_of g) g.nodes (node_list g)
  order_laws = order_law (rows_of g) g.nodes (node_list g) nodes_below (λ x y i. nodes_in y (rows_present x y i).1)

  pub name_laws : Names (rows_of g) (back_rows_of g) g.nodes (node_list g)
  name_laws =
      name_law (rows_of g) (back_rows_of g) g.nodes (node_list g) nodes_below
      (λ x y i. nodes_in x (rows_present x y i).0)
      (λ x y i. nodes_in y (rows_present x y i).1)
      back_rows

pub orders_law : OrdersLaw
orders_law g w =
    let o = order_laws g w in
    let n = name_laws g w in
    record {
      valid = λ e. record {
        once = o.once;
        all = λ a k. o.all a (nodes_in g w a k);
        only = λ a i. upto_only g.present g.nodes a (o.only a i);
        forward = λ e' a b l.
            let k = leads_present g w Outgoing e' a b l in
            forward_later g w (write_order g) (n.none e) a b (o.all a (nodes_in g w a k.0)) (leads_fars (g.row Outgoing a) e' b l);
      };
      on_cycle = λ a e. rows_cycle g w a (n.cycle a e);
      told = λ a c e. n.some a (cycle_rows g w a c) e;
    }

pub paths_law : PathsLaw
paths_law g w a b k =
    let s = seen_law (rows_of g) g.nodes (rows_within g w) a (w.within a k) b in
    record {
      sound = λ e. reach_path g w a b k (s.0 e);
      whole = λ p. s.1 (path_reach g w a b p);
    }
