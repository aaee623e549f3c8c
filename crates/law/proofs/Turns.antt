-- Each call answers what is due, and keeps the state in agreement with the calls so far. Assumes nothing.
use Rattle.std.proofs.Common.{◌≡◌, ℕ, zero, suc, ◌+◌, ◌<◌, ◌≤◌, Bool, true, false, cond, not, eqb, nat_lt, List, [], ◌∷◌, ◌++◌, length, drop, set, Some, None, Ok, Err, Option, Result, sym, refl, ap, ◌∙◌, subst, inl, inr, ⊎_elim, arith}
use Rattle.std.proofs.lemmas.List.{append-nil, get_or-set_same, length-set}
use Rattle.std.proofs.lemmas.Bool.{cases_Bool, le-ltb, both_ways, eq-eqb}
use Rattle.model.specs.declared.Direction.TheVariants.{Outgoing}
use Rattle.model.specs.Model.{Model, Lawful}
use Rattle.model.specs.Paths.{In, Distinct}
use Rattle.model.specs.Sets.{add}
use Rattle.model.proofs.Models.{leads_present}
use Rattle.theory.specs.Memory.{down}
use Rattle.theory.specs.Models.{rows_of, write_order, cycle_node}
use Rattle.theory.proofs.Memory.{down_length}
use Rattle.theory.proofs.Models.{fars_length, fars_leads, rows_within, rows_few}
use Rattle.theory.specs.Search.{visit, preorder}
use Rattle.theory.specs.Walk.{ended, pushed, step, to_come, Walks}
use Rattle.theory.proofs.Sets.{left_add}
use Rattle.theory.proofs.Walks.{walk_law}
use Rattle.workspace.specs.declared.refusal.Refusal.{Refusal}
use Rattle.workspace.specs.declared.refusal.Refusal.TheVariants.{StackShort, TableShort, MarksShort, OtherGraph, AbsentNode, StrayEntry, WalkOpen, ResultShort, OneWay as OneWayGraph}
use Rattle.workspace.specs.Refusals.{Test, first_of, Sizes, room, memory_tests, call_tests}
use Rattle.workspace.specs.Calls.{State, Outcome, Top, refuse, unless as unless_call, fresh_state, unfit, top_of, unmarked, write, show, visit_top}
use Rattle.workspace.specs.Questions.{tidied, question_tests}
use Rattle.order.specs.Questions.{counted_or, written}
use Rattle.lowpoint.specs.Cuts.{bridge_list, cut_list}
use Rattle.cuts.specs.Questions.{listed}
use Rattle.workspace.proofs.Nexts.{fit_of}
use Rattle.workspace.proofs.Tops.{unmarked_length}
use Rattle.law.specs.declared.call.Call.{Call}
use Rattle.law.specs.declared.call.Call.TheVariants.{Empty, MoveTo, Next, Reset, Ask}
use Rattle.law.specs.declared.call.Question.{Question}
use Rattle.law.specs.declared.call.Question.TheVariants.{Toposort, HasPathConnecting, Bridges, ArticulationPoints}
use Rattle.law.specs.declared.call.Reply.{Reply}
use Rattle.law.specs.declared.call.Reply.TheVariants.{Ordered, Cycle as OnCycle, Path, Listed}
use Rattle.law.specs.declared.call.Said.{Said}
use Rattle.law.specs.declared.call.Said.TheVariants.{Done, Shown, End, Told}
use Rattle.law.specs.Runs.{Answer, Past, granted, counts, shown, Walk, one_more, walk_of, is_open, has, order_of, nth, walk_answer, Due, only, unless, fit_tests, asked_tests, own_tests, order_due, list_due, told_due, due, lent_with}
use Rattle.law.specs.Law.{since}
use Rattle.law.specs.Plays.{Played, with_told, with_met, order_told, path_told, list_told, as_found, asked, played}
use Rattle.law.proofs.Stacks.{write_length, zeroed_length, down_write, pushes_unmarked, FoundAt, Looks, nothing_left, found, look}
use Rattle.law.proofs.Agrees.{cleared, Walking, Agrees, refused, cleaned, answered}

pub record Turned (g : Model) (z : Sizes) (h : Past) (c : Call) (p : Played) : Type 0 where
  pub answer : p.answer ≡ (due g z h c).answer
  pub result : (old : List ℕ) → p.result old ≡ (due g z h c).list ++ drop (length (due g z h c).list) old
  pub never : p.answer ≡ Err StrayEntry → ⊥
  pub agrees : Agrees g z ((c, p.answer) ∷ h) p.after

-- what is due without a list leaves result memory
bare_due : (u : Option Refusal) (a : Said) (old : List ℕ) → old ≡ (unless u (only a)).list ++ drop (length (unless u (only a)).list) old
bare_due None a old = refl
bare_due (Some f) a old = refl

-- Tests never give 13.

abbrev Other : List Test → Type 0
Other [] = Unit {0}
Other (t ∷ ts) = (t.1 ≡ StrayEntry → ⊥) × Other ts

first_other : (ts : List Test) → Other ts → (f : Refusal) → first_of ts ≡ Some f → f ≡ StrayEntry → ⊥
first_other [] o f e q = cc
first_other (t ∷ ts) o f e q =
    ⊎_elim
    (λ (y : t.0 ≡ true). let s : Some t.1 ≡ Some f = rw y at e in let p : t.1 ≡ f = cc in o.0 (p ∙ q))
    (λ (n : t.0 ≡ false). first_other ts o.1 f (rw n at e) q)
    (cases_Bool t.0)

no_13 : (f k : Refusal) → f ≡ k → (k ≡ StrayEntry → ⊥) → ◌≡◌ {A = Answer} (Err f) (Err StrayEntry) → ⊥
no_13 f k e n r = let p : f ≡ StrayEntry = cc in n (sym e ∙ p)

done_13 : Ok Done ≡ Err StrayEntry → ⊥
done_13 e = cc

end_13 : Ok End ≡ Err StrayEntry → ⊥
end_13 e = cc

shown_13 : (x : ℕ) → Ok (Shown x) ≡ Err StrayEntry → ⊥
shown_13 x e = cc

memory_other : (z : Sizes) (n m : ℕ) → Other (memory_tests z n m)
memory_other z n m = (
  λ (e : StackShort ≡ StrayEntry). cc,
  (
    λ (e : TableShort ≡ StrayEntry). cc,
    (λ (e : MarksShort ≡ StrayEntry). cc, tt),
  ),
)

call_other : (z : Sizes) (n m k j : ℕ) → Other (call_tests z n m k j)
call_other z n m k j = (λ (e : OtherGraph ≡ StrayEntry). cc, memory_other z k j)

-- the first of two lists of tests
abbrev pub then_of : Option Refusal → Option Refusal → Option Refusal
then_of None v = v
then_of (Some f) v = Some f

pub first_both : (ts us : List Test) → first_of (ts ++ us) ≡ then_of (first_of ts) (first_of us)
first_both [] us = refl
first_both (t ∷ ts) us =
    ⊎_elim
    (λ (y : t.0 ≡ true). rw y)
    (λ (n : t.0 ≡ false). rw n (first_both ts us))
    (cases_Bool t.0)

-- one more test at the end
abbrev late : Option Refusal → Bool → Refusal → Option Refusal
late u b f = then_of u (first_of ((b, f) ∷ []))

-- The list of an order, one on.

pub nth_end : (k : ℕ) (xs : List ℕ) → drop k xs ≡ [] → nth xs k ≡ End
nth_end k [] e = refl
nth_end zero (x ∷ xs) e = cc
nth_end (suc k) (x ∷ xs) e = nth_end k xs e

drop_none : (k : ℕ) → drop {A = ℕ} k [] ≡ []
drop_none zero = refl
drop_none (suc k) = refl

drop_end : (k : ℕ) (xs : List ℕ) → drop k xs ≡ [] → drop (suc k) xs ≡ []
drop_end k [] e = refl
drop_end zero (x ∷ xs) e = cc
drop_end (suc k) (x ∷ xs) e = drop_end k xs e

nth_next : (k : ℕ) (xs : List ℕ) (x : ℕ) (ys : List ℕ) → drop k xs ≡ x ∷ ys → (nth xs k ≡ Shown x) × (drop (suc k) xs ≡ ys)
nth_next k [] x ys e = let q : [] ≡ x ∷ ys = sym (drop_none k) ∙ e in cc
nth_next zero (w ∷ xs) x ys e = let p : w ≡ x = cc in let q : xs ≡ ys = cc in (ap (λ v. Shown v) p, q)
nth_next (suc k) (w ∷ xs) x ys e = nth_next k xs x ys e

-- The calls that answer nothing.

module _ (g : Model) (z : Sizes) (h : Past) (s : State) (a : Agrees g z h s) where
  -- the tests by the record are the tests by the calls so far
  same_tests : unfit g z s ≡ first_of (fit_tests g z h)
  same_tests = ap (λ n. first_of (call_tests z g.nodes g.edges n s.edges)) a.nodes ∙ ap (λ m. first_of (call_tests z g.nodes g.edges (counts g h).0 m)) a.edges

  empty_turn : (u : Option Refusal) → u ≡ first_of (memory_tests z g.nodes g.edges) → Turned g z h Empty (with_told (unless_call u s (record { answer = Ok tt; after = fresh_state g.nodes g.edges s.stack })))
  empty_turn None e = record {
    answer = ap (λ u. (unless u (only Done)).answer) e;
    result = bare_due _ Done;
    never = done_13;
    agrees = cleaned g z h Empty (fresh_state g.nodes g.edges s.stack) a.long refl refl refl refl refl refl refl refl;
  }
  empty_turn (Some f) e = record {
    answer = ap (λ u. (unless u (only Done)).answer) e;
    result = bare_due _ Done;
    never = no_13 f f refl (first_other (memory_tests z g.nodes g.edges) (memory_other z g.nodes g.edges) f (sym e));
    agrees = refused g z h s Empty f a;
  }

  reset_turn : (u : Option Refusal) → u ≡ first_of (fit_tests g z h) → Turned g z h Reset (with_told (unless_call u s (record { answer = Ok tt; after = fresh_state s.nodes s.edges s.stack })))
  reset_turn None e = record {
    answer = ap (λ u. (unless u (only Done)).answer) e;
    result = bare_due _ Done;
    never = done_13;
    agrees = cleaned g z h Reset (fresh_state s.nodes s.edges s.stack) a.long a.nodes a.edges refl refl refl refl refl refl;
  }
  reset_turn (Some f) e = record {
    answer = ap (λ u. (unless u (only Done)).answer) e;
    result = bare_due _ Done;
    never = no_13 f f refl (first_other (fit_tests g z h) (call_other z g.nodes g.edges (counts g h).0 (counts g h).1) f (sym e));
    agrees = refused g z h s Reset f a;
  }

module _ (g : Model) (lawful : Lawful g) (z : Sizes) (h : Past) (s : State) (a : Agrees g z h s) (x : ℕ) where
  abbrev moved : State
  moved = record { nodes = s.nodes; edges = s.edges; walking = true; depth = 1; stack = set s.stack 0 x; marks = s.marks }

  abbrev fresh_walk : Walk
  fresh_walk = record { start = x; before = shown h; nexts = 0 }

  move_walk : unfit g z s ≡ None → g.present x ≡ true → Walking g ((MoveTo x, Ok Done) ∷ h) fresh_walk moved × (cleared h ≡ true)
  move_walk u here =
      let f = fit_of g z s.nodes s.edges u in
      let below = lawful.within x here in
      let clear : cleared h ≡ true =
      ⊎_elim
      (λ (y : cleared h ≡ true). y)
      (λ (n : cleared h ≡ false). absurd (omega (arith, a.begun n, a.nodes, f.nodes)))
      (cases_Bool (cleared h)) in
      let long : 0 < length s.stack = omega (arith, f.stack, a.long) in
      let top : down (set s.stack 0 x) 1 ≡ x ∷ [] = ap (λ v. v ∷ []) (get_or-set_same s.stack 0 x 0 long) in
      let few = rows_few g lawful s.marks in
      let same : to_come (rows_of g) g.nodes s.marks (x ∷ []) ≡ preorder (rows_of g) g.nodes (has (shown h)) x =
      append-nil (visit (rows_of g) g.nodes x s.marks).shown ∙ ap (λ k. preorder (rows_of g) g.nodes k x) (a.marks clear) in (
        record {
          nodes = sym f.nodes;
          edges = sym f.edges;
          from = here;
          present = λ y i. let P : List ℕ → Type 0 = In y in let j : In y (x ∷ []) = subst P top i in ⊎_elim (λ (q : y ≡ x). ap g.present q ∙ here) (λ (n : In y []). absurd n) j;
          small = omega arith;
          coming = ap (to_come (rows_of g) g.nodes s.marks) top ∙ same;
          counted = omega arith;
          listed = λ y i. absurd i;
          unlisted = λ y i. inr i;
          over = λ e. cc;
        },
        clear,
      )

  move_agrees : unfit g z s ≡ None → g.present x ≡ true → Agrees g z ((MoveTo x, Ok Done) ∷ h) moved
  move_agrees u here =
      let k = move_walk u here in
      record {
        nodes = a.nodes;
        edges = a.edges;
        long = length-set s.stack 0 x ∙ a.long;
        walking = refl;
        marks = a.marks;
        begun = a.begun;
        once = a.once;
        idle = λ e. cc;
        bare = λ e. cc;
        walk = λ w e. let q : fresh_walk ≡ w = cc in let P : Walk → Type 0 = λ w. Walking g ((MoveTo x, Ok Done) ∷ h) w moved × (cleared h ≡ true) in subst P q k;
      }

  move_turn : (u : Option Refusal) (b : Bool) → u ≡ unfit g z s → u ≡ first_of (fit_tests g z h) → b ≡ g.present x → Turned g z h (MoveTo x) (with_told (unless_call u s (cond b (record { answer = Ok tt; after = moved }) (refuse s AbsentNode))))
  move_turn None true v e p = record {
    answer = sym (ap (λ u. (unless u (only Done)).answer) (first_both (fit_tests g z h) ((not (g.present x), AbsentNode) ∷ []) ∙ ap (λ u. late u (not (g.present x)) AbsentNode) (sym e) ∙ ap (λ b. late None (not b) AbsentNode) (sym p)));
    result = bare_due _ Done;
    never = done_13;
    agrees = move_agrees (sym v) (sym p);
  }
  move_turn None false v e p = record {
    answer = sym (ap (λ u. (unless u (only Done)).answer) (first_both (fit_tests g z h) ((not (g.present x), AbsentNode) ∷ []) ∙ ap (λ u. late u (not (g.present x)) AbsentNode) (sym e) ∙ ap (λ b. late None (not b) AbsentNode) (sym p)));
    result = bare_due _ Done;
    never = no_13 AbsentNode AbsentNode refl (λ (q : AbsentNode ≡ StrayEntry). cc);
    agrees = refused g z h s (MoveTo x) AbsentNode a;
  }
  move_turn (Some f) b v e p = record {
    answer = sym (ap (λ u. (unless u (only Done)).answer) (first_both (fit_tests g z h) ((not (g.present x), AbsentNode) ∷ []) ∙ ap (λ u. late u (not (g.present x)) AbsentNode) (sym e)));
    result = bare_due _ Done;
    never = no_13 f f refl (first_other (fit_tests g z h) (call_other z g.nodes g.edges (counts g h).0 (counts g h).1) f (sym e));
    agrees = refused g z h s (MoveTo x) f a;
  }

-- The walk.

pub has_in : (xs : List ℕ) (x : ℕ) → has xs x ≡ false → In x xs → ⊥
has_in [] x n i = i
has_in (y ∷ ys) x n i =
    ⊎_elim
    (λ (t : eqb x y ≡ true). both_ways true (rw t at n) refl)
    (λ (t : eqb x y ≡ false). ⊎_elim (λ (q : x ≡ y). both_ways (eqb x y) t (eq-eqb x y q)) (λ (j : In x ys). has_in ys x (rw t at n) j) i)
    (cases_Bool (eqb x y))

open_more : (o : Option Walk) (w : Walk) → o ≡ Some w → one_more o ≡ Some (record { start = w.start; before = w.before; nexts = suc w.nexts })
open_more o w e = ap one_more e

in_drop : (k : ℕ) (xs : List ℕ) (y : ℕ) → In y (drop k xs) → In y xs
in_drop zero xs y i = i
in_drop (suc k) [] y i = i
in_drop (suc k) (x ∷ xs) y i = inr (in_drop k xs y i)

module _ (g : Model) (lawful : Lawful g) (z : Sizes) (h : Past) (s : State) (a : Agrees g z h s) (fit : None ≡ first_of (fit_tests g z h)) where
  closed_turn : walk_of h ≡ None → Turned g z h Next (with_met (record { answer = Ok None; after = s }))
  closed_turn e = record {
    answer = sym (ap (λ u. (unless u (only (walk_answer g (walk_of h)))).answer) (sym fit) ∙ ap (λ o. (unless None (only (walk_answer g o))).answer) e);
    result = bare_due _ (walk_answer g (walk_of h));
    never = end_13;
    agrees = record {
      nodes = a.nodes;
      edges = a.edges;
      long = a.long;
      walking = a.walking ∙ ap is_open e ∙ sym (ap (λ o. is_open (one_more o)) e);
      marks = a.marks;
      begun = a.begun;
      once = a.once;
      idle = λ _. a.idle e;
      bare = λ _. a.bare e;
      walk = λ w q. let p : None ≡ Some w = sym (ap one_more e) ∙ q in cc;
    };
  }

  module _ (w : Walk) (is : walk_of h ≡ Some w) where
    abbrev v : Walking g h w s
    v = (a.walk w is).0

    abbrev clear : cleared h ≡ true
    clear = (a.walk w is).1

    abbrev on : Walk
    on = record { start = w.start; before = w.before; nexts = suc w.nexts }

    abbrev st : List ℕ
    st = down s.stack s.depth

    laws : Walks (rows_of g) g.nodes s.marks st
    laws = walk_law (rows_of g) g.nodes (rows_within g lawful) s.marks st (λ x i. lawful.within x (v.present x i))

    due_is : (due g z h Next).answer ≡ Ok (nth (order_of g w) w.nexts)
    due_is = ap (λ u. (unless u (only (walk_answer g (walk_of h)))).answer) (sym fit) ∙ ap (λ o. (unless None (only (walk_answer g o))).answer) is

    -- a walk after one more call, from the parts that the call may have changed
    go_on : (r : Answer) (s' : State) → granted r ≡ true → s'.nodes ≡ s.nodes → s'.edges ≡ s.edges → length s'.stack ≡ z.stack → s'.walking ≡ true → s'.marks ≡ has (shown ((Next, r) ∷ h)) → Distinct (shown ((Next, r) ∷ h)) → Walking g ((Next, r) ∷ h) on s' → Agrees g z ((Next, r) ∷ h) s'
    go_on r s' gr nodes edges long goes_on marks once walking =
        let c : counts g ((Next, r) ∷ h) ≡ counts g h = rw gr in
        let o : walk_of ((Next, r) ∷ h) ≡ Some on = (rw gr (open_more (walk_of h) w is)) in
        let k : cleared ((Next, r) ∷ h) ≡ cleared h = rw gr in
        record {
          nodes = nodes ∙ a.nodes ∙ sym (ap (λ p. p.0) c);
          edges = edges ∙ a.edges ∙ sym (ap (λ p. p.1) c);
          long = long;
          walking = goes_on ∙ sym (ap is_open o);
          marks = λ _. marks;
          begun = λ n. absurd (both_ways (cleared h) (sym k ∙ n) clear);
          once = once;
          idle = λ e. let p : None ≡ Some on = sym e ∙ o in cc;
          bare = λ e. let p : None ≡ Some on = sym e ∙ o in cc;
          walk = λ w₂ e. let p : Some on ≡ Some w₂ = sym o ∙ e in let q : on ≡ w₂ = cc in let P : Walk → Type 0 = λ w. Walking g ((Next, r) ∷ h) w s' × (cleared ((Next, r) ∷ h) ≡ true) in subst P q (walking, k ∙ clear);
        }

    abbrev at_bottom : State
    at_bottom = record { nodes = s.nodes; edges = s.edges; walking = true; depth = 0; stack = s.stack; marks = s.marks }

    end_turn : step (rows_of g) s.marks st ≡ ended → Turned g z h Next (with_met (visit_top g s (Ok None)))
    end_turn e =
        let none : drop w.nexts (order_of g w) ≡ [] = sym v.coming ∙ laws.at_end e in
        let still = drop_end w.nexts (order_of g w) none in
        record {
          answer = sym (due_is ∙ ap (λ a. Ok a) (nth_end w.nexts (order_of g w) none));
          result = bare_due _ (walk_answer g (walk_of h));
          never = end_13;
          agrees = go_on (Ok End) at_bottom refl refl refl a.long refl (a.marks clear) a.once (record {
            nodes = v.nodes;
            edges = v.edges;
            from = v.from;
            present = λ x i. absurd i;
            small = omega (arith, v.small);
            coming = sym still;
            counted = ap (λ xs. length (since h) + length xs) (still ∙ sym none) ∙ v.counted;
            listed = v.listed;
            unlisted = λ y i. ⊎_elim (λ (j : In y (since h)). inl j) (λ (j : In y (drop w.nexts (order_of g w))). let P : List ℕ → Type 0 = In y in absurd (subst P none j)) (v.unlisted y i);
            over = λ _. still;
          });
        }

    show_turn : (x k : ℕ) (t : Bool) → FoundAt (rows_of g) s.marks s.stack s.depth x k → t ≡ nat_lt (room s.nodes s.edges) (k + length (g.row Outgoing x)) → Turned g z h Next (with_met (cond t (refuse s StrayEntry) (show g s x k)))
    show_turn x k t f e =
        let row = rows_of g in
        let m' = add s.marks x in
        let es = g.row Outgoing x in
        let news = unmarked m' es in
        let st' = pushed m' (row x) (down s.stack k) in
        let new = laws.new x m' st' f.steps in
        let went = laws.goes x m' st' f.steps in
        let small = laws.small x m' st' f.steps in
        let inside = laws.inside x m' st' f.steps in
        let fl = fars_length es in
        let la = left_add (λ y. length (row y)) s.marks x g.nodes new.2 f.new in
        let fits_in : k + length es ≤ room s.nodes s.edges = omega (arith, f.below, v.small, v.nodes, v.edges) in
        let no : t ≡ false = e ∙ le-ltb (room s.nodes s.edges) (k + length es) fits_in in
        let unfitted : unfit g z s ≡ None = ap (λ n. first_of (call_tests z g.nodes g.edges n s.edges)) a.nodes ∙ ap (λ m. first_of (call_tests z g.nodes g.edges (counts g h).0 m)) a.edges ∙ sym fit in
        let fit_is = fit_of g z s.nodes s.edges unfitted in
        let ul = unmarked_length m' es in
        let long : k + length news ≤ length s.stack = omega (arith, fit_is.stack, a.long) in
        let on_stack : down (write s.stack k news) (k + length news) ≡ st' = down_write news s.stack k long ∙ pushes_unmarked m' es (down s.stack k) in
        let dl = ap length on_stack in
        let dk = down_length (write s.stack k news) (k + length news) in
        let ds = down_length s.stack s.depth in
        let rest : drop w.nexts (order_of g w) ≡ x ∷ to_come row g.nodes m' st' = sym v.coming ∙ went in
        let nn = nth_next w.nexts (order_of g w) x (to_come row g.nodes m' st') rest in
        let lr = ap length rest in
        let ln = ap length nn.1 in
        let marked = a.marks clear in
        rw no (record {
          answer = sym (due_is ∙ ap (λ a. Ok a) nn.0);
          result = bare_due _ (walk_answer g (walk_of h));
          never = shown_13 x;
          agrees = go_on (Ok (Shown x)) _ refl refl refl (write_length news s.stack k ∙ a.long) refl (ap (λ m. add m x) marked) (has_in (shown h) x (ap (λ m. m x) (sym marked) ∙ f.new), a.once) (record {
            nodes = v.nodes;
            edges = v.edges;
            from = v.from;
            present = λ y i.
                let P : List ℕ → Type 0 = In y in
                ⊎_elim
                (λ (j : In y st). v.present y j)
                (λ (j : In y (row x)). let l = fars_leads es y j in (leads_present g lawful Outgoing l.0 x y l.1).1)
                (inside y (subst P on_stack i));
            small = omega (arith, v.small);
            coming = ap (to_come row g.nodes m') on_stack ∙ sym nn.1;
            counted = omega (arith, v.counted);
            listed = λ y i. ⊎_elim (λ (q : y ≡ x). in_drop w.nexts (order_of g w) y (let P : List ℕ → Type 0 = In y in subst P (sym rest) (inl q))) (λ (j : In y (since h)). v.listed y j) i;
            unlisted = λ y i.
                ⊎_elim
                (λ (j : In y (since h)). inl (inr j))
                (λ (j : In y (drop w.nexts (order_of g w))).
                let P : List ℕ → Type 0 = In y in
                ⊎_elim (λ (q : y ≡ x). inl (inl q)) (λ (l : In y (to_come row g.nodes m' st')). inr (subst P (sym nn.1) l)) (subst P rest j))
                (v.unlisted y i);
            over = λ b. let p = v.over b in let q : ◌≡◌ {A = List ℕ} [] (x ∷ to_come row g.nodes m' st') = sym p ∙ rest in cc;
          });
        })

    open_turn : (t : Top) → t ≡ top_of g.present s.marks s.stack s.depth → Turned g z h Next (with_met (visit_top g s t))
    open_turn t e = go (look (rows_of g) g.present s.marks s.stack s.depth v.present)
      where
        go : Looks (rows_of g) g.present s.marks s.stack s.depth → Turned g z h Next (with_met (visit_top g s t))
        go (nothing_left q st) = let p : t ≡ Ok None = e ∙ q in rw p (end_turn st)
        go (found x k q f) = let p : t ≡ Ok (Some (x, k)) = e ∙ q in rw p (show_turn x k (nat_lt (room s.nodes s.edges) (k + length (g.row Outgoing x))) f refl)

  next_granted : (b : Bool) (o : Option Walk) → b ≡ s.walking → walk_of h ≡ o → Turned g z h Next (with_met (cond b (visit_top g s (top_of g.present s.marks s.stack s.depth)) (record { answer = Ok None; after = s })))
  next_granted true None e q = let p : true ≡ false = e ∙ a.walking ∙ ap is_open q in absurd (both_ways true p refl)
  next_granted false None e q = closed_turn q
  next_granted true (Some w) e q = open_turn w q (top_of g.present s.marks s.stack s.depth) refl
  next_granted false (Some w) e q = let p : false ≡ true = e ∙ a.walking ∙ ap is_open q in absurd (both_ways true (sym p) refl)

module _ (g : Model) (lawful : Lawful g) (z : Sizes) (h : Past) (s : State) (a : Agrees g z h s) where
  next_turn : (u : Option Refusal) → u ≡ first_of (fit_tests g z h) → Turned g z h Next (with_met (unless_call u s (cond s.walking (visit_top g s (top_of g.present s.marks s.stack s.depth)) (record { answer = Ok None; after = s }))))
  next_turn None e = next_granted g lawful z h s a e s.walking (walk_of h) refl refl
  next_turn (Some f) e = record {
    answer = ap (λ u. (unless u (only (walk_answer g (walk_of h)))).answer) e;
    result = bare_due _ (walk_answer g (walk_of h));
    never = no_13 f f refl (first_other (fit_tests g z h) (call_other z g.nodes g.edges (counts g h).0 (counts g h).1) f (sym e));
    agrees = refused g z h s Next f a;
  }

-- Questions.

own_other : (g : Model) (q : Question) → Other (own_tests g q)
own_other g (Toposort l) = (λ (e : ResultShort ≡ StrayEntry). cc, tt)
own_other g (HasPathConnecting x y) = (
  λ (e : AbsentNode ≡ StrayEntry). cc,
  (λ (e : AbsentNode ≡ StrayEntry). cc, tt),
)
own_other g (Bridges l) = (
  λ (e : OneWayGraph ≡ StrayEntry). cc,
  (λ (e : ResultShort ≡ StrayEntry). cc, tt),
)
own_other g (ArticulationPoints l) = (
  λ (e : OneWayGraph ≡ StrayEntry). cc,
  (λ (e : ResultShort ≡ StrayEntry). cc, tt),
)

other_both : (ts us : List Test) → Other ts → Other us → Other (ts ++ us)
other_both [] us o p = p
other_both (t ∷ ts) us o p = (o.0, other_both ts us o.1 p)

shut_of : (o : Option Walk) → is_open o ≡ false → o ≡ None
shut_of None e = refl
shut_of (Some w) e = cc

told_13 : (r : Reply) → Ok (Told r) ≡ Err StrayEntry → ⊥
told_13 r e = cc

-- a question's answer as it is said, and its result memory
pub record Says {A : Type 0} (x : A) (say : Result A Refusal → Answer) (res : Result A Refusal → List ℕ → List ℕ) (d : Due) : Type 0 where
  pub reply : Reply
  pub told : d.answer ≡ Ok (Told reply)
  pub granted : say (Ok x) ≡ Ok (Told reply)
  pub wrote : (old : List ℕ) → res (Ok x) old ≡ d.list ++ drop (length d.list) old
  pub no : (f : Refusal) → say (Err f) ≡ Err f
  pub same : (f : Refusal) (old : List ℕ) → res (Err f) old ≡ old

module _ (g : Model) (z : Sizes) (h : Past) (s : State) (a : Agrees g z h s) where
  -- the tests by the record are the tests by the calls so far
  same_asked : first_of (question_tests g z s) ≡ first_of (asked_tests g z h)
  same_asked =
      first_both (call_tests z g.nodes g.edges s.nodes s.edges) ((s.walking, WalkOpen) ∷ [])
      ∙ ap (λ u. late u s.walking WalkOpen) (same_tests g z h s a)
      ∙ ap (λ b. late (first_of (fit_tests g z h)) b WalkOpen) a.walking
      ∙ sym (first_both (fit_tests g z h) ((is_open (walk_of h), WalkOpen) ∷ []))

  -- where they pass, no walk is open
  asked_shut : None ≡ first_of (asked_tests g z h) → walk_of h ≡ None
  asked_shut e = shut_of (walk_of h) (passes (first_of (fit_tests g z h)) (is_open (walk_of h)) (sym (first_both (fit_tests g z h) ((is_open (walk_of h), WalkOpen) ∷ [])) ∙ sym e))
    where
      passes : (u : Option Refusal) (b : Bool) → late u b WalkOpen ≡ None → b ≡ false
      passes None true q = cc
      passes None false q = refl
      passes (Some f) b q = cc

  module _ (q : Question) {A : Type 0} (x : A) (say : Result A Refusal → Answer) (res : Result A Refusal → List ℕ → List ℕ) (f : Says x say res (told_due g q)) where
    abbrev outcome : Option Refusal → Option Refusal → Outcome A
    outcome u v = unless_call u s (unless_call v s (record { answer = Ok x; after = tidied s }))

    abbrev play : Option Refusal → Option Refusal → Played
    play u v = record { answer = say (outcome u v).answer; after = (outcome u v).after; result = res (outcome u v).answer }

    no_stray : (k : Refusal) → first_of (asked_tests g z h ++ own_tests g q) ≡ Some k → k ≡ StrayEntry → ⊥
    no_stray k e =
        first_other (asked_tests g z h ++ own_tests g q)
        (other_both (asked_tests g z h) (own_tests g q)
        (other_both (fit_tests g z h) ((is_open (walk_of h), WalkOpen) ∷ []) (call_other z g.nodes g.edges (counts g h).0 (counts g h).1) (λ (e : WalkOpen ≡ StrayEntry). cc, tt))
        (own_other g q))
        k e

    turned_no : (u v : Option Refusal) (k : Refusal) → then_of u v ≡ Some k → outcome u v ≡ refuse s k → first_of (asked_tests g z h ++ own_tests g q) ≡ Some k → Turned g z h (Ask q) (play u v)
    turned_no u v k e o t =
        let d = ap (λ w. unless w (told_due g q)) t in
        let said : (play u v).answer ≡ Err k = ap (λ o. say o.answer) o ∙ f.no k in
        let P : Answer → State → Type 0 = λ r s'. Agrees g z ((Ask q, r) ∷ h) s' in
        record {
          answer = said ∙ sym (ap (λ w. w.answer) d);
          result = λ old. ap (λ o. res o.answer old) o ∙ f.same k old ∙ sym (ap (λ w. w.list ++ drop (length w.list) old) d);
          never = λ r. no_stray k t (let y : Err k ≡ Err StrayEntry = sym said ∙ r in cc);
          agrees = subst (λ r. P r (outcome u v).after) (sym said) (subst (P (Err k)) (sym (ap (λ o. o.after) o)) (refused g z h s (Ask q) k a));
        }

    question_turn : (u v : Option Refusal) → u ≡ first_of (asked_tests g z h) → v ≡ first_of (own_tests g q) → Turned g z h (Ask q) (play u v)
    question_turn (Some k) v e m = turned_no (Some k) v k refl refl (first_both (asked_tests g z h) (own_tests g q) ∙ ap (λ u. then_of u (first_of (own_tests g q))) (sym e))
    question_turn None (Some k) e m = turned_no None (Some k) k refl refl (first_both (asked_tests g z h) (own_tests g q) ∙ ap (λ u. then_of u (first_of (own_tests g q))) (sym e) ∙ sym m)
    question_turn None None e m =
        let t : first_of (asked_tests g z h ++ own_tests g q) ≡ None = first_both (asked_tests g z h) (own_tests g q) ∙ ap (λ u. then_of u (first_of (own_tests g q))) (sym e) ∙ sym m in
        let d = ap (λ w. unless w (told_due g q)) t in
        let P : Answer → Type 0 = λ r. Agrees g z ((Ask q, r) ∷ h) (tidied s) in
        record {
          answer = f.granted ∙ sym f.told ∙ sym (ap (λ w. w.answer) d);
          result = λ old. f.wrote old ∙ sym (ap (λ w. w.list ++ drop (length w.list) old) d);
          never = λ r. told_13 f.reply (sym f.granted ∙ r);
          agrees = subst P (sym f.granted) (answered g z h q f.reply s (tidied s) a (asked_shut e) refl refl (zeroed_length (room s.nodes s.edges) s.stack ∙ a.long) refl refl);
        }

order_says : (g : Model) (l : ℕ) (o : Option ℕ) → Says (counted_or (length (write_order g)) o) order_told (λ r. written r (write_order g)) (order_due (write_order g) o)
order_says g l None = record { reply = Ordered (length (write_order g)); told = refl; granted = refl; wrote = λ _. refl; no = λ _. refl; same = λ _ _. refl }
order_says g l (Some c) = record { reply = OnCycle c; told = refl; granted = refl; wrote = λ _. refl; no = λ _. refl; same = λ _ _. refl }

path_says : (b : Bool) → Says b path_told (λ r. as_found) (only (Told (Path b)))
path_says b = record { reply = Path b; told = refl; granted = refl; wrote = λ _. refl; no = λ _. refl; same = λ _ _. refl }

list_says : (list : List ℕ) → Says (length list) list_told (λ r. listed r list) (list_due list)
list_says list = record { reply = Listed (length list); told = refl; granted = refl; wrote = λ _. refl; no = λ _. refl; same = λ _ _. refl }

module _ (g : Model) (lawful : Lawful g) (z : Sizes) (h : Past) (s : State) (a : Agrees g z h s) where
  asked_turn : (q : Question) → Turned g z h (Ask q) (asked g z (lent_with q) s q)
  asked_turn (Toposort l) = question_turn g z h s a (Toposort l) _ order_told (λ r. written r (write_order g)) (order_says g l (cycle_node g)) (first_of (question_tests g z s)) (first_of (own_tests g (Toposort l))) (same_asked g z h s a) refl
  asked_turn (HasPathConnecting x y) = question_turn g z h s a (HasPathConnecting x y) _ path_told (λ r. as_found) (path_says _) (first_of (question_tests g z s)) (first_of (own_tests g (HasPathConnecting x y))) (same_asked g z h s a) refl
  asked_turn (Bridges l) = question_turn g z h s a (Bridges l) _ list_told (λ r. listed r (bridge_list g)) (list_says (bridge_list g)) (first_of (question_tests g z s)) (first_of (own_tests g (Bridges l))) (same_asked g z h s a) refl
  asked_turn (ArticulationPoints l) = question_turn g z h s a (ArticulationPoints l) _ list_told (λ r. listed r (cut_list g)) (list_says (cut_list g)) (first_of (question_tests g z s)) (first_of (own_tests g (ArticulationPoints l))) (same_asked g z h s a) refl

  pub turn : (c : Call) → Turned g z h c (played g z s c)
  turn Empty = empty_turn g z h s a (first_of (memory_tests z g.nodes g.edges)) refl
  turn (MoveTo x) = move_turn g lawful z h s a x (unfit g z s) (g.present x) refl (same_tests g z h s a) refl
  turn Next = next_turn g lawful z h s a (unfit g z s) (same_tests g z h s a)
  turn Reset = reset_turn g z h s a (unfit g z s) (same_tests g z h s a)
  turn (Ask q) = asked_turn q
