-- The law of runs. Assumes nothing.
use Rattle.std.proofs.Common.{◌≡◌, ℕ, ◌≤◌, Bool, true, false, cond, not, eqb, List, [], ◌∷◌, ◌++◌, length, take, drop, Some, None, Option, Ok, sym, refl, ap, ◌∙◌, subst, inl, inr, ⊎_elim, arith}
use Rattle.std.proofs.lemmas.Bool.{cases_Bool, both_ways, eqb-true}
use Rattle.model.specs.declared.Direction.TheVariants.{Outgoing}
use Rattle.model.specs.Model.{Model, Lawful}
use Rattle.model.specs.Paths.{In, Distinct, Follows, nodes_of}
use Rattle.model.specs.Paths.{Step as PathStep}
use Rattle.theory.specs.Search.{Reach, start, along, Ordered}
use Rattle.theory.specs.Models.{rows_of, write_order, cycle_node, joined}
use Rattle.theory.proofs.Orders.{preorder_law}
use Rattle.theory.proofs.Models.{fars_leads, leads_fars, rows_within, orders_law}
use Rattle.theory.proofs.Paths.{follows_on, nodes_on}
use Rattle.lowpoint.specs.Cuts.{bridge_list, cut_list}
use Rattle.lowpoint.proofs.Joins.{cuts_law}
use Rattle.lowpoint.proofs.Listings.{list_right}
use Rattle.workspace.specs.declared.refusal.Refusal.{Refusal}
use Rattle.workspace.specs.declared.refusal.Refusal.TheVariants.{AbsentNode}
use Rattle.workspace.specs.Refusals.{Sizes, first_of}
use Rattle.workspace.specs.Calls.{State, new_state}
use Rattle.order.proofs.Rights.{first_order, path_right}
use Rattle.law.specs.declared.call.Question.{Question}
use Rattle.law.specs.declared.call.Question.TheVariants.{Toposort, HasPathConnecting, Bridges, ArticulationPoints}
use Rattle.law.specs.declared.call.Reply.{Reply}
use Rattle.law.specs.declared.call.Call.{Call}
use Rattle.law.specs.declared.call.Call.TheVariants.{Empty, MoveTo, Next, Reset, Ask}
use Rattle.law.specs.declared.call.Said.{Said}
use Rattle.law.specs.declared.call.Said.TheVariants.{End}
use Rattle.law.specs.Runs.{Answer, Past, granted, shown, Walk, walk_of, has, order_of, walk_answer, only, unless, fit_tests, asked_tests, own_tests, Due, order_due, told_due, due, lent}
use Rattle.law.specs.Law.{Answered, Always, NeverStray, since, ClearPath, Completes, Lasts, Tells, Asked, Every, OrderTold, Orders, Paths, Cuts}
use Rattle.law.specs.Plays.{played, plays, RunLaw}
use Rattle.law.proofs.Agrees.{Agrees}
use Rattle.law.proofs.Turns.{turn, has_in, nth_end, then_of, first_both}

module _ (g : Model) (lawful : Lawful g) (z : Sizes) where
  answers : (h : Past) (s : State) → Agrees g z h s → (cs : List Call) (old : List ℕ) → Answered g z h cs (plays g z s cs old)
  answers h s a [] old = tt
  answers h s a (c ∷ cs) old =
      let t = turn g lawful z h s a c in
      (refl, record { answer = t.answer; list = t.result (take (lent c) old) }, answers ((c, (played g z s c).answer) ∷ h) (played g z s c).after t.agrees cs (drop (lent c) old))

  no_strays : (h : Past) (s : State) → Agrees g z h s → (cs : List Call) (old : List ℕ) → NeverStray (plays g z s cs old)
  no_strays h s a [] old = tt
  no_strays h s a (c ∷ cs) old = let t = turn g lawful z h s a c in (t.never, no_strays ((c, (played g z s c).answer) ∷ h) (played g z s c).after t.agrees cs (drop (lent c) old))

  -- what agreement gives holds always
  always : (P : Past → Type 0) → ((h : Past) (s : State) → Agrees g z h s → P h) → (h : Past) (s : State) → Agrees g z h s → (cs : List Call) (old : List ℕ) → Always P h (plays g z s cs old)
  always P f h s a [] old = f h s a
  always P f h s a (c ∷ cs) old = (f h s a, always P f ((c, (played g z s c).answer) ∷ h) (played g z s c).after (turn g lawful z h s a c).agrees cs (drop (lent c) old))

  ordered : (w : Walk) → g.present w.start ≡ true → Ordered (rows_of g) g.nodes (has w.before) w.start
  ordered w here = preorder_law (rows_of g) g.nodes (rows_within g lawful) (has w.before) w.start (lawful.within w.start here)

  few_since : (h : Past) (s : State) → Agrees g z h s → length (since h) ≤ g.nodes
  few_since h s a = go (walk_of h) refl
    where
      go : (o : Option Walk) → walk_of h ≡ o → length (since h) ≤ g.nodes
      go None e = omega (arith, a.idle e)
      go (Some w) e = let v = (a.walk w e).0 in omega (arith, v.counted, (ordered w v.from).few)

-- Paths that touch no node of a list.

has_no : (xs : List ℕ) (x : ℕ) → (In x xs → ⊥) → has xs x ≡ false
has_no [] x n = refl
has_no (y ∷ ys) x n =
    ⊎_elim
    (λ (t : eqb x y ≡ true). absurd (n (inl (eqb-true x y t))))
    (λ (t : eqb x y ≡ false). rw t (has_no ys x (λ i. n (inr i))))
    (cases_Bool (eqb x y))

module _ (g : Model) where
  module _ (w : Walk) (here : g.present w.start ≡ true) where
    path_of : (y : ℕ) → Reach (rows_of g) (has w.before) w.start y → ClearPath g w y
    path_of y (start k) = ([], (record { start = here; steps = refl }, λ v t i. ⊎_elim (λ (q : v ≡ w.start). has_in w.before w.start k (rw (← q) i)) (λ (j : In v []). j) t))
    path_of y (along {x} r i k) =
        let p = path_of x r in
        let l = fars_leads (g.row Outgoing x) y i in (
          p.0 ++ (l.0, y) ∷ [],
          (
            record { start = here; steps = follows_on g w.start p.0 x l.0 y p.1.0.steps l.1 },
            λ v t j.
                ⊎_elim
                (λ (q : v ≡ w.start). p.1.1 v (inl q) j)
                (λ (n : In v (nodes_of (p.0 ++ (l.0, y) ∷ []))).
                ⊎_elim
                (λ (m : In v (nodes_of p.0)). p.1.1 v (inr m) j)
                (λ (q : v ≡ y). has_in w.before y k (rw (← q) j))
                (nodes_on p.0 l.0 y v n))
                t,
          ),
        )

    reach_from : (a : ℕ) → Reach (rows_of g) (has w.before) w.start a → (s : List PathStep) (b : ℕ) → Follows g a s b → ((v : ℕ) → In v (nodes_of s) → In v w.before → ⊥) → Reach (rows_of g) (has w.before) w.start b
    reach_from a r [] b f n = rw (← f) r
    reach_from a r (x ∷ s) b f n =
        reach_from x.1 (along r (leads_fars (g.row Outgoing a) x.0 x.1 f.0) (has_no w.before x.1 (n x.1 (inl refl)))) s b f.1 (λ v i. n v (inr i))

    reach_of : (y : ℕ) → ClearPath g w y → Reach (rows_of g) (has w.before) w.start y
    reach_of y p = reach_from w.start (start (has_no w.before w.start (λ i. p.1.1 w.start (inl refl) i))) p.0 y p.1.0.steps (λ v i. p.1.1 v (inr i))

module _ (g : Model) (lawful : Lawful g) (z : Sizes) where
  completes : (h : Past) (s : State) → Agrees g z h s → Completes g h
  completes h s a w e at_end =
      let v = (a.walk w e).0 in
      let o = ordered g lawful z w v.from in
      let none = v.over at_end in
      record {
        sound = λ y i. path_of g w v.from y (o.sound y (v.listed y i));
        whole = λ y p.
            ⊎_elim
            (λ (j : In y (since h)). j)
            (λ (j : In y (drop w.nexts (order_of g w))). let P : List ℕ → Type 0 = In y in absurd (subst P none j))
            (v.unlisted y (o.whole y (reach_of g w v.from y p)));
      }

-- The end lasts.

still_end : (u : Option Refusal) (r : Answer) (d : Said) → r ≡ (unless u (only d)).answer → granted r ≡ true → d ≡ End → r ≡ Ok End
still_end None r d e gr q = e ∙ ap (λ a. Ok a) q
still_end (Some f) r d e gr q = absurd (both_ways (granted r) (ap granted e) gr)

module _ (g : Model) (lawful : Lawful g) (z : Sizes) where
  last_step : (h : Past) (s : State) → Agrees g z h s → (c : Call) → Lasts ((c, (played g z s c).answer) ∷ h)
  last_step h s a c is-next gr over =
      let t = turn g lawful z h s a c in
      let e : (played g z s c).answer ≡ (due g z h Next).answer = t.answer ∙ ap (λ c. (due g z h c).answer) is-next in
      still_end (first_of (fit_tests g z h)) (played g z s c).answer (walk_answer g (walk_of h)) e gr (go (walk_of h) refl)
    where
      go : (o : Option Walk) → walk_of h ≡ o → walk_answer g (walk_of h) ≡ End
      go None q = ap (walk_answer g) q
      go (Some w) q = ap (walk_answer g) q ∙ nth_end w.nexts (order_of g w) ((a.walk w q).0.over over)

  lasts : (h : Past) (s : State) → Agrees g z h s → Lasts h → (cs : List Call) (old : List ℕ) → Always Lasts h (plays g z s cs old)
  lasts h s a l [] old = l
  lasts h s a l (c ∷ cs) old = (l, lasts ((c, (played g z s c).answer) ∷ h) (played g z s c).after (turn g lawful z h s a c).agrees (last_step h s a c) cs (drop (lent c) old))

-- Questions.

-- what is due to a question whose own tests pass, and the memory that it leaves, is right
abbrev RightDue : (Question → Reply → List ℕ → Type 0) → Model → Question → Type 0
RightDue P g q = first_of (own_tests g q) ≡ None → (old : List ℕ) → Tells (P q) (told_due g q).answer ((told_due g q).list ++ drop (length (told_due g q).list) old)

none_then : (u v : Option Refusal) → then_of u v ≡ None → v ≡ None
none_then None v e = e
none_then (Some f) v e = cc

unless_right : (P : Reply → List ℕ → Type 0) (u : Option Refusal) (d : Due) (old : List ℕ) → (u ≡ None → Tells P d.answer (d.list ++ drop (length d.list) old)) → Tells P (unless u d).answer ((unless u d).list ++ drop (length (unless u d).list) old)
unless_right P None d old f = f refl
unless_right P (Some k) d old f = tt

module _ (g : Model) (lawful : Lawful g) (z : Sizes) (P : Question → Reply → List ℕ → Type 0) (right : (q : Question) → RightDue P g q) where
  asked_right : (h : Past) (c : Call) (a : Answer) (old new : List ℕ) → a ≡ (due g z h c).answer → new ≡ (due g z h c).list ++ drop (length (due g z h c).list) old → Asked P c a new
  asked_right h Empty a old new e w = tt
  asked_right h (MoveTo x) a old new e w = tt
  asked_right h Next a old new e w = tt
  asked_right h Reset a old new e w = tt
  asked_right h (Ask q) a old new e w =
      let asked = asked_tests g z h in
      let d = due g z h (Ask q) in
      let R : Answer → Type 0 = λ r. Tells (P q) r new in
      let Q : List ℕ → Type 0 = Tells (P q) d.answer in
      subst R (sym e)
      (subst Q (sym w)
      (unless_right (P q) (first_of (asked ++ own_tests g q)) (told_due g q) old (λ u. right q (none_then (first_of asked) (first_of (own_tests g q)) (sym (first_both asked (own_tests g q)) ∙ u)) old)))

  every : (h : Past) (s : State) → Agrees g z h s → (cs : List Call) (old : List ℕ) → Every P (plays g z s cs old)
  every h s a [] old = tt
  every h s a (c ∷ cs) old =
      let t = turn g lawful z h s a c in (
        asked_right h c (played g z s c).answer (take (lent c) old) ((played g z s c).result (take (lent c) old)) t.answer (t.result (take (lent c) old)),
        every ((c, (played g z s c).answer) ∷ h) (played g z s c).after t.agrees cs (drop (lent c) old),
      )

module _ (g : Model) (lawful : Lawful g) where
  order_right : (o : Option ℕ) → cycle_node g ≡ o → (old : List ℕ) → Tells (OrderTold g) (order_due (write_order g) o).answer ((order_due (write_order g) o).list ++ drop (length (order_due (write_order g) o).list) old)
  order_right None e old = first_order lawful e (drop (length (write_order g)) old)
  order_right (Some x) e old = (orders_law g lawful).on_cycle x e

  orders_right : (q : Question) → RightDue (Orders g) g q
  orders_right (Toposort l) v old = order_right (cycle_node g) refl old
  orders_right (HasPathConnecting a b) v old = tt
  orders_right (Bridges l) v old = tt
  orders_right (ArticulationPoints l) v old = tt

  -- an order or a node on a cycle is told
  order_tells : (o : Option ℕ) (old : List ℕ) → Tells (λ r new. Unit {0}) (order_due (write_order g) o).answer ((order_due (write_order g) o).list ++ drop (length (order_due (write_order g) o).list) old)
  order_tells None old = tt
  order_tells (Some x) old = tt

  here : (b : Bool) (f : Refusal) (o : Option Refusal) → cond (not b) (Some f) o ≡ None → b ≡ true
  here true f o e = refl
  here false f o e = cc

  paths_right : (q : Question) → RightDue (Paths g) g q
  paths_right (Toposort l) v old = order_tells (cycle_node g) old
  paths_right (HasPathConnecting a b) v old = path_right lawful a b (joined g a b) (here (g.present a) AbsentNode _ v) refl
  paths_right (Bridges l) v old = tt
  paths_right (ArticulationPoints l) v old = tt

  cuts_right : (q : Question) → RightDue (Cuts g) g q
  cuts_right (Toposort l) v old = order_tells (cycle_node g) old
  cuts_right (HasPathConnecting a b) v old = tt
  cuts_right (Bridges l) v old = list_right (cuts_law g lawful).bridges (drop (length (bridge_list g)) old) refl refl
  cuts_right (ArticulationPoints l) v old = list_right (cuts_law g lawful).cuts (drop (length (cut_list g)) old) refl refl

pub run_law : RunLaw
run_law g lawful z mem k long cs old =
    let s = new_state mem k in
    let a : Agrees g z [] s = record {
      nodes = refl;
      edges = refl;
      long = long;
      walking = refl;
      marks = λ e. cc;
      begun = λ _. refl;
      once = tt;
      idle = λ _. refl;
      bare = λ _. refl;
      walk = λ w e. cc;
    } in
    record {
      answered = answers g lawful z [] s a cs old;
      never_stray = no_strays g lawful z [] s a cs old;
      once = always g lawful z (λ h. Distinct (shown h)) (λ h s a. a.once) [] s a cs old;
      complete = always g lawful z (Completes g) (completes g lawful z) [] s a cs old;
      few = always g lawful z (λ h. length (since h) ≤ g.nodes) (few_since g lawful z) [] s a cs old;
      lasting = lasts g lawful z [] s a tt cs old;
      orders = every g lawful z (Orders g) (orders_right g lawful) [] s a cs old;
      paths = every g lawful z (Paths g) (paths_right g lawful) [] s a cs old;
      cuts = every g lawful z (Cuts g) (cuts_right g lawful) [] s a cs old;
    }
