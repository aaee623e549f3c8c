-- The second pass over the order, and the order written. Assumes nothing.
use Rattle.std.proofs.Common.{◌≡◌, ℕ, zero, suc, ◌-◌, ◌<◌, ◌≤◌, Bool, true, false, cond, not, ltb, List, [], ◌∷◌, length, get_or, take, reverse, Some, None, Option, sym, refl, ap, ◌∙◌, arith}
use Rattle.std.proofs.lemmas.Bool.{cond-true, lt-ltb}
use Rattle.model.specs.Model.{Entry}
use Rattle.model.specs.Sets.{Set, add}
use Rattle.theory.specs.Order.{last_outside, or_else, late}
use Rattle.theory.specs.Models.{fars, back_rows_of, write_order}
use Rattle.theory.proofs.Memory.{down_more}
use Rattle.graph.specs.declared.Graph.{Ghosts as GraphGhosts}
use Rattle.marks.specs.declared.VisitMap.{Ghosts as MapGhosts}
use Rattle.order.specs.declared.search.Search.{Search}
use Rattle.order.specs.Search.{graph_of, seen, Same, Searched}
use Rattle.order.proofs.Outers.{listed_below}
use Rattle.theory.specs.Memory.{down}
use Rattle.std.specs.Iterator.{Drains}
use Rattle.std.specs.List.{last_or, filter}
use mathlib.Core.List.{map}
use Rattle.std.proofs.lemmas.Iterator.{YieldsList, items_from_drains}
use Rattle.std.proofs.lemmas.List.{reverse-append, map-id}
use Rattle.std.proofs.Math.Seq.{take-suc}

-- the last item of a run that gave the whole list
pub last_of_run : {S A : Type 0} {steps : S → Option A → S → Type 0} {s : S} {all : List A} (o : Option A) → (xs : List A) × Drains steps s xs × (o ≡ last_or None xs) → YieldsList steps (λ x. x) s all → o ≡ last_or None all
last_of_run o (xs, (u, (t, y, n)), e) c = e ∙ ap (last_or None) (sym (map-id xs) ∙ items_from_drains xs (t, y, λ _. (u, n)) c)

-- the last far node that is not marked
pub last_far : (m : Set) (row : List Entry) (o : Option ℕ) → last_or o (filter (λ y. not (m y)) (map (λ e. e.2) row)) ≡ last_outside m (fars row) o
last_far m [] o = refl
last_far m (x ∷ row) o = go (m x.2) (last_far m row)
  where
    go : (b : Bool) → ((o : Option ℕ) → last_or o (filter (λ y. not (m y)) (map (λ e. e.2) row)) ≡ last_outside m (fars row) o) → last_or o (cond (not b) (x.2 ∷ filter (λ y. not (m y)) (map (λ e. e.2) row)) (filter (λ y. not (m y)) (map (λ e. e.2) row))) ≡ last_outside m (fars row) (cond b o (Some x.2))
    go true f = f o
    go false f = f (Some x.2)

-- The order in the middle of being looked through: its last k nodes are left.
module _ {G M : Type 0} {graphs : GraphGhosts G} {maps : MapGhosts M} where
  pub record Checking (s t : Search G M graphs maps) (k : ℕ) : Type 0 where
    pub same_late : late (back_rows_of (graph_of s)) (seen t) (down t.list.now k) ≡ late (back_rows_of (graph_of s)) (seen s) (write_order (graph_of s))
    pub searched : Searched t
    pub same : Same s t
    pub few : k ≤ t.count

  module _ {s t : Search G M graphs maps} {k : ℕ} (c : Checking s t k) (h : 0 < k) (m : Set) (p : m ≡ cond (ltb (get_or t.list.now (k - 1) 0) (maps.limit t.marks.now)) (add (seen t) (get_or t.list.now (k - 1) 0)) (seen t)) (o : Option ℕ) (q : o ≡ last_outside m (back_rows_of (graph_of t) (get_or t.list.now (k - 1) 0)) None) where
    opened : late (back_rows_of (graph_of s)) (seen s) (write_order (graph_of s)) ≡ or_else o (late (back_rows_of (graph_of s)) m (down t.list.now (k - 1)))
    opened =
        let x = get_or t.list.now (k - 1) 0 in
        let limit = maps.limit t.marks.now in
        let back = back_rows_of (graph_of s) in
        let left = down t.list.now (k - 1) in
        let l = listed_below c.searched (k - 1) (omega (arith, c.few)) in
        let marks_are : m ≡ add (seen t) x = p ∙ cond-true (ltb x limit) (add (seen t) x) (seen t) (lt-ltb x limit l) in
        let found : last_outside m (back x) None ≡ o = ap (λ b. last_outside m (back_rows_of (graphs.model b.now) x) None) (sym c.same.graph) ∙ sym q in
        sym c.same_late ∙ ap (late back (seen t)) (down_more t.list.now k h) ∙ ap (λ a. or_else (last_outside a (back x) None) (late back a left)) (sym marks_are) ∙ ap (λ o. or_else o (late back m left)) found

    pub check_found : (j : ℕ) → o ≡ Some j → Some j ≡ late (back_rows_of (graph_of s)) (seen s) (write_order (graph_of s))
    check_found j f = sym (opened ∙ ap (λ a. or_else a (late (back_rows_of (graph_of s)) m (down t.list.now (k - 1)))) f)

    pub check_more : o ≡ None → late (back_rows_of (graph_of s)) m (down t.list.now (k - 1)) ≡ late (back_rows_of (graph_of s)) (seen s) (write_order (graph_of s))
    check_more f = sym (opened ∙ ap (λ a. or_else a (late (back_rows_of (graph_of s)) m (down t.list.now (k - 1)))) f)

-- a list's first entries, the last first
pub down_take : (mem : List ℕ) (d : ℕ) → d ≤ length mem → reverse (take d mem) ≡ down mem d
down_take mem zero h = refl
down_take mem (suc d) h =
    ap reverse (take-suc mem d 0 (omega arith)) ∙ reverse-append (take d mem) (get_or mem d 0 ∷ []) ∙ ap (λ l. get_or mem d 0 ∷ l) (down_take mem d (omega arith))
