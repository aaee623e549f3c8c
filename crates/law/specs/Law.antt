-- The law of runs.
use Rattle.std.specs.Prelude.{◌≡◌, ℕ, ◌≤◌, Bool, true, false, cond, List, [], ◌∷◌, ◌++◌, length, take, drop, Some, Ok, Err, ◌≢◌}
use Rattle.model.specs.Model.{Model}
use Rattle.model.specs.Paths.{Step, Path, Touches, In, Distinct, Reaches, CycleAt}
use Rattle.lowpoint.specs.Cuts.{Bridge, CutNode, ListsAll}
use Rattle.workspace.specs.declared.refusal.Refusal.TheVariants.{StrayEntry}
use Rattle.workspace.specs.Refusals.{Sizes}
use Rattle.order.specs.Right.{GoodOrder, Decides}
use Rattle.law.specs.declared.call.Question.{Question}
use Rattle.law.specs.declared.call.Question.TheVariants.{Toposort, HasPathConnecting, Bridges, ArticulationPoints}
use Rattle.law.specs.declared.call.Reply.{Reply}
use Rattle.law.specs.declared.call.Reply.TheVariants.{Ordered, Cycle, Path as IsPath, Listed}
use Rattle.law.specs.declared.call.Call.{Call}
use Rattle.law.specs.declared.call.Call.TheVariants.{Empty, MoveTo, Next, Reset, Ask}
use Rattle.law.specs.declared.call.Said.TheVariants.{Done, Shown, End, Told}
use Rattle.law.specs.Runs.{Answer, Past, granted, with_shown, shown, Walk, walk_of, Due, due, Turn}

-- the answer is the one that is due; the result memory begins with the list that is due, and its rest is as it was
pub record Gives (d : Due) (t : Turn) : Type 0 where
  pub answer : t.answer ≡ d.answer
  pub list : t.after ≡ d.list ++ drop (length d.list) t.before

-- one turn for each call, in order, and each gives what is due
abbrev pub Answered : Model → Sizes → Past → List Call → List Turn → Type 0
Answered g z h [] [] = Unit {0}
Answered g z h [] (t ∷ ts) = ⊥
Answered g z h (c ∷ cs) [] = ⊥
Answered g z h (c ∷ cs) (t ∷ ts) = (t.call ≡ c) × Gives (due g z h c) t × Answered g z ((c, t.answer) ∷ h) cs ts

-- what holds at every moment of a run
abbrev pub Always : (Past → Type 0) → Past → List Turn → Type 0
Always P h [] = P h
Always P h (t ∷ ts) = P h × Always P ((t.call, t.answer) ∷ h) ts

-- refusal 13 is for memory that somebody else wrote in
abbrev pub NeverStray : List Turn → Type 0
NeverStray [] = Unit {0}
NeverStray (t ∷ ts) = (t.answer ≢ Err StrayEntry) × NeverStray ts

-- Walks.

abbrev pub since_after : Call → Answer → List ℕ → List ℕ
since_after Empty a xs = []
since_after (MoveTo s) a xs = []
since_after Next a xs = with_shown a xs
since_after Reset a xs = []
since_after (Ask q) a xs = xs

-- the nodes shown since the latest start or reset, the newest first
abbrev pub since : Past → List ℕ
since [] = []
since (p ∷ h) = cond (granted p.1) (since_after p.0 p.1 (since h)) (since h)

abbrev pub is_end : Answer → Bool → Bool
is_end (Ok Done) b = b
is_end (Ok (Shown x)) b = b
is_end (Ok End) b = true
is_end (Ok (Told r)) b = b
is_end (Err f) b = b

abbrev pub ended_after : Call → Answer → Bool → Bool
ended_after Empty a b = false
ended_after (MoveTo s) a b = false
ended_after Next a b = is_end a b
ended_after Reset a b = false
ended_after (Ask q) a b = b

-- whether the end was answered since the latest start or reset
abbrev pub ended : Past → Bool
ended [] = false
ended (p ∷ h) = cond (granted p.1) (ended_after p.0 p.1 (ended h)) (ended h)

-- a path from the walk's start to y that touches no node shown before that start
abbrev pub ClearPath : Model → Walk → ℕ → Type 0
ClearPath g w y = (s : List Step) × (Path g w.start s y × ((v : ℕ) → Touches v w.start s → In v w.before → ⊥))

-- a walk at its end has shown, since its start, exactly the nodes on such paths
pub record Complete (g : Model) (h : Past) (w : Walk) : Type 0 where
  pub sound : (y : ℕ) → In y (since h) → ClearPath g w y
  pub whole : (y : ℕ) → ClearPath g w y → In y (since h)

abbrev pub Completes : Model → Past → Type 0
Completes g h = (w : Walk) → walk_of h ≡ Some w → ended h ≡ true → Complete g h w

-- once the end was answered, the next granted call of `next` answers it again
abbrev pub Lasts : Past → Type 0
Lasts [] = Unit {0}
Lasts (p ∷ h) = p.0 ≡ Next → granted p.1 ≡ true → ended h ≡ true → p.1 ≡ Ok End

-- Questions.

-- what a question tells and its result memory then meet P, or it is refused
abbrev pub Tells : (Reply → List ℕ → Type 0) → Answer → List ℕ → Type 0
Tells P (Ok Done) new = ⊥
Tells P (Ok (Shown x)) new = ⊥
Tells P (Ok End) new = ⊥
Tells P (Ok (Told r)) new = P r new
Tells P (Err f) new = Unit {0}

abbrev pub Asked : (Question → Reply → List ℕ → Type 0) → Call → Answer → List ℕ → Type 0
Asked P Empty a new = Unit {0}
Asked P (MoveTo s) a new = Unit {0}
Asked P Next a new = Unit {0}
Asked P Reset a new = Unit {0}
Asked P (Ask q) a new = Tells (P q) a new

-- what holds of every granted question of a run
abbrev pub Every : (Question → Reply → List ℕ → Type 0) → List Turn → Type 0
Every P [] = Unit {0}
Every P (t ∷ ts) = Asked P t.call t.answer t.after × Every P ts

-- an order is told, or a node on a cycle
abbrev pub OrderTold : Model → Reply → List ℕ → Type 0
OrderTold g (Ordered n) new = GoodOrder g (take n new)
OrderTold g (Cycle a) new = CycleAt g a
OrderTold g (IsPath b) new = ⊥
OrderTold g (Listed n) new = ⊥

abbrev pub Orders : Model → Question → Reply → List ℕ → Type 0
Orders g (Toposort size) r new = OrderTold g r new
Orders g (HasPathConnecting a b) r new = Unit {0}
Orders g (Bridges size) r new = Unit {0}
Orders g (ArticulationPoints size) r new = Unit {0}

abbrev pub PathTold : Model → ℕ → ℕ → Reply → Type 0
PathTold g a b (Ordered n) = ⊥
PathTold g a b (Cycle c) = ⊥
PathTold g a b (IsPath y) = Decides y (Reaches g a b)
PathTold g a b (Listed n) = ⊥

abbrev pub Paths : Model → Question → Reply → List ℕ → Type 0
Paths g (Toposort size) r new = Unit {0}
Paths g (HasPathConnecting a b) r new = PathTold g a b r
Paths g (Bridges size) r new = Unit {0}
Paths g (ArticulationPoints size) r new = Unit {0}

abbrev pub ListTold : (ℕ → Type 0) → Reply → List ℕ → Type 0
ListTold P (Ordered n) new = ⊥
ListTold P (Cycle a) new = ⊥
ListTold P (IsPath b) new = ⊥
ListTold P (Listed n) new = ListsAll P (take n new)

abbrev pub Cuts : Model → Question → Reply → List ℕ → Type 0
Cuts g (Toposort size) r new = Unit {0}
Cuts g (HasPathConnecting a b) r new = Unit {0}
Cuts g (Bridges size) r new = ListTold (Bridge g) r new
Cuts g (ArticulationPoints size) r new = ListTold (CutNode g) r new

pub record Law (g : Model) (z : Sizes) (cs : List Call) (ts : List Turn) : Type 0 where
  -- one turn for each call; refused exactly when the rules refuse it, with that number; walks show in depth-first order;
  -- questions tell what the graph alone decides, each count and each written list; the rest of result memory is as it was
  pub answered : Answered g z [] cs ts
  -- 13 never comes
  pub never_stray : NeverStray ts
  -- no node is shown twice between resets
  pub once : Always (λ h. Distinct (shown h)) [] ts
  -- a walk at its end is complete
  pub complete : Always (Completes g) [] ts
  -- of the granted nexts after a start at most N show a node
  pub few : Always (λ h. length (since h) ≤ g.nodes) [] ts
  -- the end lasts
  pub lasting : Always Lasts [] ts
  -- an order is right, and is told exactly where there is no cycle; else a node on a cycle
  pub orders : Every (Orders g) ts
  -- a path is told exactly where one leads from the one node to the other
  pub paths : Every (Paths g) ts
  -- the listed edges are the bridges, the listed nodes the cut nodes
  pub cuts : Every (Cuts g) ts
