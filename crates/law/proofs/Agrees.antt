-- What a workspace's state is, by the calls so far; each call keeps that. Assumes nothing.
use Rattle.std.proofs.Common.{◌≡◌, ℕ, ◌+◌, ◌*◌, ◌≤◌, Bool, true, false, cond, ◌⊎◌, [], ◌∷◌, length, drop, Some, None, Ok, Err, sym, ap, ◌∙◌}
use Rattle.model.specs.Model.{Model}
use Rattle.model.specs.Paths.{In, Distinct}
use Rattle.model.specs.Sets.{nothing}
use Rattle.theory.specs.Memory.{down}
use Rattle.theory.specs.Models.{rows_of}
use Rattle.theory.specs.Walk.{to_come, left}
use Rattle.workspace.specs.declared.refusal.Refusal.{Refusal}
use Rattle.workspace.specs.Refusals.{Sizes}
use Rattle.workspace.specs.Calls.{State}
use Rattle.law.specs.declared.call.Call.{Call}
use Rattle.law.specs.declared.call.Call.TheVariants.{Empty, MoveTo, Next, Reset, Ask}
use Rattle.law.specs.declared.call.Question.{Question}
use Rattle.law.specs.declared.call.Reply.{Reply}
use Rattle.law.specs.declared.call.Said.TheVariants.{Done, Told}
use Rattle.law.specs.Runs.{Past, granted, counts, shown, Walk, walk_of, is_open, has, order_of}
use Rattle.law.specs.Law.{since, ended as at_end}

-- whether a granted `empty` or `reset` came
abbrev pub clears : Call → Bool → Bool
clears Empty b = true
clears (MoveTo a) b = b
clears Next b = b
clears Reset b = true
clears (Ask q) b = b

abbrev pub cleared : Past → Bool
cleared [] = false
cleared (p ∷ h) = cond (granted p.1) (clears p.0 (cleared h)) (cleared h)

-- an open walk: what it has yet to show is the rest of its order
pub record Walking (g : Model) (h : Past) (w : Walk) (s : State) : Type 0 where
  pub nodes : s.nodes ≡ g.nodes
  pub edges : s.edges ≡ g.edges
  pub from : g.present w.start ≡ true
  pub present : (x : ℕ) → In x (down s.stack s.depth) → g.present x ≡ true
  pub small : s.depth + left (λ y. length (rows_of g y)) s.marks g.nodes ≤ 1 + 2 * g.edges
  pub coming : to_come (rows_of g) g.nodes s.marks (down s.stack s.depth) ≡ drop w.nexts (order_of g w)
  -- and what it has shown is the order so far
  pub counted : length (since h) + length (drop w.nexts (order_of g w)) ≡ length (order_of g w)
  pub listed : (y : ℕ) → In y (since h) → In y (order_of g w)
  pub unlisted : (y : ℕ) → In y (order_of g w) → In y (since h) ⊎ In y (drop w.nexts (order_of g w))
  pub over : at_end h ≡ true → drop w.nexts (order_of g w) ≡ []

pub record Agrees (g : Model) (z : Sizes) (h : Past) (s : State) : Type 0 where
  pub nodes : s.nodes ≡ (counts g h).0
  pub edges : s.edges ≡ (counts g h).1
  pub long : length s.stack ≡ z.stack
  pub walking : s.walking ≡ is_open (walk_of h)
  pub marks : cleared h ≡ true → s.marks ≡ has (shown h)
  pub begun : (cleared h ≡ false → (counts g h).0 ≡ 0)
  pub once : Distinct (shown h)
  pub idle : walk_of h ≡ None → length (since h) ≡ 0
  pub bare : walk_of h ≡ None → shown h ≡ []
  pub walk : (w : Walk) → walk_of h ≡ Some w → Walking g h w s × (cleared h ≡ true)

-- a refusal changes nothing
pub refused : (g : Model) (z : Sizes) (h : Past) (s : State) (c : Call) (f : Refusal) → Agrees g z h s → Agrees g z ((c, Err f) ∷ h) s
refused g z h s c f a = record {
  nodes = a.nodes;
  edges = a.edges;
  long = a.long;
  walking = a.walking;
  marks = a.marks;
  begun = a.begun;
  once = a.once;
  idle = a.idle;
  bare = a.bare;
  walk = λ w e.
      let k = a.walk w e in
      let v = k.0 in
      (record { nodes = v.nodes; edges = v.edges; from = v.from; present = v.present; small = v.small; coming = v.coming; counted = v.counted; listed = v.listed; unlisted = v.unlisted; over = v.over }, k.1);
}

-- a reset clears all
pub cleaned : (g : Model) (z : Sizes) (h : Past) (c : Call) (s : State) → length s.stack ≡ z.stack → s.nodes ≡ (counts g ((c, Ok Done) ∷ h)).0 → s.edges ≡ (counts g ((c, Ok Done) ∷ h)).1 → s.walking ≡ false → s.marks ≡ nothing →
    clears c (cleared h) ≡ true → shown ((c, Ok Done) ∷ h) ≡ [] → walk_of ((c, Ok Done) ∷ h) ≡ None → since ((c, Ok Done) ∷ h) ≡ [] → Agrees g z ((c, Ok Done) ∷ h) s
cleaned g z h c s long nodes edges closed clear wiped none no_Walk nothing-since = record {
  nodes = nodes;
  edges = edges;
  long = long;
  walking = rw no_Walk closed;
  marks = λ _. rw none clear;
  begun = λ n. let q : true ≡ false = sym wiped ∙ n in cc;
  once = rw none tt;
  idle = λ _. ap length nothing-since;
  bare = λ _. none;
  walk = λ w e. let q : None ≡ Some w = sym no_Walk ∙ e in cc;
}

-- a granted question leaves all but clears the marks, and there was nothing to clear
pub answered : (g : Model) (z : Sizes) (h : Past) (q : Question) (r : Reply) (s s' : State) → Agrees g z h s → walk_of h ≡ None → s'.nodes ≡ s.nodes → s'.edges ≡ s.edges → length s'.stack ≡ z.stack → s'.walking ≡ false → s'.marks ≡ nothing → Agrees g z ((Ask q, Ok (Told r)) ∷ h) s'
answered g z h q r s s' a shut nodes edges long closed clear = record {
  nodes = nodes ∙ a.nodes;
  edges = edges ∙ a.edges;
  long = long;
  walking = closed ∙ sym (ap is_open shut);
  marks = λ _. clear ∙ sym (ap has (a.bare shut));
  begun = a.begun;
  once = a.once;
  idle = a.idle;
  bare = a.bare;
  walk = λ w e. let q : None ≡ Some w = sym shut ∙ e in cc;
}
