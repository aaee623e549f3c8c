-- A run so far: the turns of the first calls, and the state after them. Assumes nothing.
use Rattle.std.proofs.Common.{◌≡◌, ℕ, ◌+◌, ◌-◌, zero, suc, ◌<◌, ◌≤◌, min, cond, ◌&&◌, nat_lt, nat_le, List, [], ◌∷◌, ◌++◌, length, get_or, take, drop, set, sym, refl, ap, ◌∙◌, subst, ⊎_elim, arith}
use borrow.Rule.Slice.PartMut.{put_mid}
use Rattle.std.proofs.lemmas.List.{take_more, take_more_set, length-set, length-append, length-take-le, length-drop, drop-drop, drop-take, drop_more, drop_all, take-take}
use Rattle.std.proofs.lemmas.Slice.{take-put_mid_below, between-put_mid, drop-put_mid}
use Rattle.std.proofs.lemmas.Bool.{cases_lt}
use Rattle.std.proofs.lemmas.Bool.Decides.{nat_tests}
use Rattle.model.specs.Model.{Model, Lawful}
use Rattle.model.specs.Sets.{Set}
use Rattle.workspace.specs.Refusals.{Sizes}
use Rattle.workspace.specs.Calls.{State, new_state}
use Rattle.law.specs.declared.call.Call.{Call}
use Rattle.law.specs.Runs.{Answer, Turn, lent, lent_all, turns, room_for}
use Rattle.law.specs.Law.{Law}
use Rattle.law.specs.Plays.{performed, played, plays, after, table_after, table_of}
use Rattle.law.proofs.Laws.{run_law}

lent_more : (cs : List Call) (c : Call) → lent_all (cs ++ c ∷ []) ≡ lent_all cs + lent c
lent_more [] c = omega arith
lent_more (b ∷ cs) c = let r = lent_more cs c in omega arith

abbrev one : Call → Answer → List ℕ → List ℕ → Turn
one c a old new = record { call = c; answer = a; before = old; after = new }

-- one more turn
turns_more : (cs : List Call) (rs : List Answer) (c : Call) (r : Answer) (old new : List ℕ) → length cs ≡ length rs → turns (cs ++ c ∷ []) (rs ++ r ∷ []) old new ≡ turns cs rs old new ++ one c r (take (lent c) (drop (lent_all cs) old)) (take (lent c) (drop (lent_all cs) new)) ∷ []
turns_more [] [] c r old new e = refl
turns_more [] (b ∷ rs) c r old new e = absurd (omega arith)
turns_more (b ∷ cs) [] c r old new e = absurd (omega arith)
turns_more (b ∷ cs) (a ∷ rs) c r old new e =
    let i = turns_more cs rs c r (drop (lent b) old) (drop (lent b) new) (omega arith) in
    let F : List ℕ → List ℕ → List Turn = λ x y. turns cs rs (drop (lent b) old) (drop (lent b) new) ++ one c r (take (lent c) x) (take (lent c) y) ∷ [] in
    ap (λ ts. one b a (take (lent b) old) (take (lent b) new) ∷ ts)
    (i ∙ ap (λ x. F x (drop (lent_all cs) (drop (lent b) new))) (drop-drop (lent_all cs) (lent b) old) ∙ ap (F (drop (lent b + lent_all cs) old)) (drop-drop (lent_all cs) (lent b) new))

-- turns look at their pieces alone
turns_same : (cs : List Call) (rs : List Answer) (old new new' : List ℕ) → take (lent_all cs) new ≡ take (lent_all cs) new' → turns cs rs old new ≡ turns cs rs old new'
turns_same [] rs old new new' e = refl
turns_same (c ∷ cs) [] old new new' e = refl
turns_same (c ∷ cs) (a ∷ rs) old new new' e =
    let here : take (lent c) new ≡ take (lent c) new' = sym (take-take (lent c) (lent c + lent_all cs) new (omega arith)) ∙ ap (take (lent c)) e ∙ take-take (lent c) (lent c + lent_all cs) new' (omega arith) in
    let rest : take (lent_all cs) (drop (lent c) new) ≡ take (lent_all cs) (drop (lent c) new') = sym (drop-take (lent c) (lent_all cs) new) ∙ ap (drop (lent c)) e ∙ drop-take (lent c) (lent_all cs) new' in
    ap (λ x. one c a (take (lent c) old) x ∷ turns cs rs (drop (lent c) old) (drop (lent c) new)) here
    ∙ ap (λ ts. one c a (take (lent c) old) (take (lent c) new') ∷ ts) (turns_same cs rs (drop (lent c) old) (drop (lent c) new) (drop (lent c) new') rest)

plays_more : (g : Model) (z : Sizes) (s : State) (cs : List Call) (c : Call) (old : List ℕ) → plays g z s (cs ++ c ∷ []) old ≡ plays g z s cs old ++ one c (played g z (after g z s cs) c).answer (take (lent c) (drop (lent_all cs) old)) ((played g z (after g z s cs) c).result (take (lent c) (drop (lent_all cs) old))) ∷ []
plays_more g z s [] c old = refl
plays_more g z s (b ∷ cs) c old =
    let p = played g z s b in
    let q = played g z (after g z p.after cs) c in
    let F : List ℕ → List Turn = λ x. plays g z p.after cs (drop (lent b) old) ++ one c q.answer (take (lent c) x) (q.result (take (lent c) x)) ∷ [] in
    ap (λ ts. one b p.answer (take (lent b) old) (p.result (take (lent b) old)) ∷ ts)
    (plays_more g z p.after cs c (drop (lent b) old) ∙ ap F (drop-drop (lent_all cs) (lent b) old))

after_more : (g : Model) (z : Sizes) (s : State) (cs : List Call) (c : Call) → after g z s (cs ++ c ∷ []) ≡ (played g z (after g z s cs) c).after
after_more g z s [] c = refl
after_more g z s (b ∷ cs) c = after_more g z (played g z s b).after cs c

table_more : (n : ℕ) (ts : List Turn) (t : Turn) (tab : List ℕ) → table_of n (ts ++ t ∷ []) tab ≡ table_after n t.call t.answer (table_of n ts tab)
table_more n [] t tab = refl
table_more n (u ∷ ts) t tab = table_more n ts t (table_after n u.call u.answer tab)

refilled_length : (a k : ℕ) (xs ys : List ℕ) → a + k ≤ length xs → length ys ≡ k → length (put_mid a k xs ys) ≡ length xs
refilled_length a k xs ys h e =
    let l₁ = length-take-le a xs (omega arith) in
    let l₂ = length-drop a xs in
    let l₃ = length-drop k (drop a xs) in
    let l₄ = length-append ys (drop k (drop a xs)) in
    let l₅ = length-append (take a xs) (ys ++ drop k (drop a xs)) in
    omega arith

-- after i calls, with the first entries of result memory lent: the turns so far, the table, and the state now
pub record SoFar (g : Model) (z : Sizes) (s : State) (cs : List Call) (rs : List Answer) (old new tab tab' : List ℕ) (i at : ℕ) (now : State) : Type 0 where
  pub few : i ≤ length cs
  pub room : i ≤ length rs
  pub lent_is : at ≡ lent_all (take i cs)
  pub given : turns (take i cs) (take i rs) old new ≡ plays g z s (take i cs) old
  pub state : now ≡ after g z s (take i cs)
  pub table : tab' ≡ table_of g.nodes (plays g z s (take i cs) old) tab
  pub rest : drop at new ≡ drop at old
  pub long : length new ≡ length old
  pub inside : at ≤ length old

pub begun : (g : Model) (z : Sizes) (s : State) (cs : List Call) (rs : List Answer) (old tab : List ℕ) → SoFar g z s cs rs old old tab tab 0 0 s
begun g z s cs rs old tab = record { few = omega arith; room = omega arith; lent_is = refl; given = refl; state = refl; table = refl; rest = refl; long = refl; inside = omega arith }

module _ {g : Model} {z : Sizes} {s : State} {cs : List Call} {rs : List Answer} {old new tab tab' : List ℕ} {i at : ℕ} {now : State} (f : SoFar g z s cs rs old new tab tab' i at now) (d : Call) (y : Sizes) (r : Answer) (then : State) (piece tab_then : List ℕ) where
  abbrev c : Call
  c = get_or cs i d

  one_more_call : i < length cs → i < length rs → at + lent c ≤ length new → y ≡ z → r ≡ (played g y now c).answer → then ≡ (played g y now c).after → piece ≡ (played g y now c).result (take (at + lent c - at) (drop at new)) → length piece ≡ lent c → tab_then ≡ table_after g.nodes c r tab' → SoFar g z s cs (set rs i r) old (put_mid at (at + lent c - at) new piece) tab tab_then (i + 1) (at + lent c) then
  one_more_call hc hr hm same ra sa pa pl ta =
      let t = take_more cs i d hc in
      let n : at + lent c - at ≡ lent c = omega arith in
      let p : played g y now c ≡ played g z (after g z s (take i cs)) c = ap (λ w. played g w now c) same ∙ ap (λ n. played g z n c) f.state in
      let inside : at ≤ length new = omega arith in
      let kl : length piece ≡ at + lent c - at = omega arith in
      let new' = put_mid at (at + lent c - at) new piece in
      let ti = length-take-le i cs f.few in
      let tr = length-take-le i rs f.room in
      let shorter : take (lent_all (take i cs)) new' ≡ take (lent_all (take i cs)) new =
      ap (λ k. take k new') (sym f.lent_is) ∙ take-put_mid_below at (at + lent c - at) new piece at (omega arith) inside ∙ ap (λ k. take k new) f.lent_is in
      let held : take (lent c) (drop (lent_all (take i cs)) new') ≡ piece =
      ap (λ k. take (lent c) (drop k new')) (sym f.lent_is) ∙ ap (λ k. take k (drop at new')) (sym n) ∙ between-put_mid at (at + lent c - at) new piece (at + lent c) inside kl in
      let was : take (at + lent c - at) (drop at new) ≡ take (lent c) (drop (lent_all (take i cs)) old) =
      ap (λ k. take k (drop at new)) n ∙ ap (take (lent c)) f.rest ∙ ap (λ k. take (lent c) (drop k old)) f.lent_is in
      let wrote : take (lent c) (drop (lent_all (take i cs)) new') ≡ (played g z (after g z s (take i cs)) c).result (take (lent c) (drop (lent_all (take i cs)) old)) =
      held ∙ pa ∙ ap (λ p. p.result (take (at + lent c - at) (drop at new))) p ∙ ap (played g z (after g z s (take i cs)) c).result was in
      let old_piece = take (lent c) (drop (lent_all (take i cs)) old) in
      let right : r ≡ (played g z (after g z s (take i cs)) c).answer = ra ∙ ap (λ p. p.answer) p in
      let more = plays_more g z s (take i cs) c old in
      record {
        few = omega arith;
        room = omega (arith, length-set rs i r);
        lent_is = ap (λ k. k + lent c) f.lent_is ∙ sym (lent_more (take i cs) c) ∙ ap lent_all (sym t);
        given =
            ap (λ xs. turns xs (take (i + 1) (set rs i r)) old new') t
            ∙ ap (λ xs. turns (take i cs ++ c ∷ []) xs old new') (take_more_set rs i r hr)
            ∙ turns_more (take i cs) (take i rs) c r old new' (ti ∙ sym tr)
            ∙ ap (λ ts. ts ++ one c r old_piece (take (lent c) (drop (lent_all (take i cs)) new')) ∷ []) (turns_same (take i cs) (take i rs) old new' new shorter ∙ f.given)
            ∙ ap (λ x. plays g z s (take i cs) old ++ one c r old_piece x ∷ []) wrote
            ∙ ap (λ x. plays g z s (take i cs) old ++ one c x old_piece ((played g z (after g z s (take i cs)) c).result old_piece) ∷ []) right
            ∙ sym more
            ∙ ap (λ xs. plays g z s xs old) (sym t);
        state = sa ∙ ap (λ p. p.after) p ∙ sym (after_more g z s (take i cs) c) ∙ ap (after g z s) (sym t);
        table =
            ta
            ∙ ap (λ x. table_after g.nodes c x tab') right
            ∙ ap (table_after g.nodes c (played g z (after g z s (take i cs)) c).answer) f.table
            ∙ sym (table_more g.nodes (plays g z s (take i cs) old) (one c (played g z (after g z s (take i cs)) c).answer old_piece ((played g z (after g z s (take i cs)) c).result old_piece)) tab)
            ∙ ap (λ ts. table_of g.nodes ts tab) (sym more ∙ ap (λ xs. plays g z s xs old) (sym t));
        rest = drop-put_mid at (at + lent c - at) new piece (at + lent c) (omega arith) inside kl ∙ sym (drop-drop (lent c) at new) ∙ ap (drop (lent c)) f.rest ∙ drop-drop (lent c) at old;
        long = refilled_length at (at + lent c - at) new piece (omega arith) kl ∙ f.long;
        inside = omega (arith, f.long);
      }

-- one more call, over the next n entries of result memory
module _ {g : Model} {z : Sizes} {s : State} {cs : List Call} {rs : List Answer} {old new tab tab' : List ℕ} {i at : ℕ} {now : State} (f : SoFar g z s cs rs old new tab tab' i at now) (d : Call) (y : Sizes) (n : ℕ) where
  abbrev was : List ℕ
  was = take (at + n - at) (drop at new)

  pub one_more : (r : Answer) (then : State) (piece tab_then : List ℕ) → n ≡ lent (get_or cs i d) → i < length cs → i < length rs → at + n ≤ length new → y ≡ z → r ≡ (performed g y (length was) now (get_or cs i d)).answer → then ≡ (performed g y (length was) now (get_or cs i d)).after → piece ≡ (performed g y (length was) now (get_or cs i d)).result was → length piece ≡ length was → tab_then ≡ table_after g.nodes (get_or cs i d) r tab' → SoFar g z s cs (set rs i r) old (put_mid at (at + n - at) new piece) tab tab_then (i + 1) (at + n) then
  one_more r then piece tab_then e hc hr hm same ra sa pa pl ta =
      let c = get_or cs i d in
      let size : length was ≡ lent c = length-take-le (at + n - at) (drop at new) (omega (arith, length-drop at new, hm)) ∙ omega (arith, e) in
      let does : performed g y (length was) now c ≡ played g y now c = ap (λ k. performed g y k now c) size in
      let gives = pa ∙ ap (λ p. p.result was) does ∙ ap (λ k. (played g y now c).result (take (at + k - at) (drop at new))) e in
      let P : ℕ → Type 0 = λ k. SoFar g z s cs (set rs i r) old (put_mid at (at + k - at) new piece) tab tab_then (i + 1) (at + k) then in
      subst P (sym e) (one_more_call f d y r then piece tab_then hc hr (omega (arith, hm, e)) same (ra ∙ ap (λ p. p.answer) does) (sa ∙ ap (λ p. p.after) does) gives (pl ∙ size) ta)

-- a run that began on a new workspace keeps the law, wherever it ends
module _ {g : Model} (z : Sizes) {s : State} {cs : List Call} {rs : List Answer} {old new tab tab' : List ℕ} {i at : ℕ} {now : State} (mem : List ℕ) (k : Set) (e : s ≡ new_state mem k) (f : SoFar g z s cs rs old new tab tab' i at now) where
  pub run_keeps : Lawful g → length mem ≡ z.stack → Law g z (take i cs) (turns (take i cs) (take i rs) old new)
  run_keeps lawful long =
      let P : List Turn → Type 0 = Law g z (take i cs) in
      subst P (sym (f.given ∙ ap (λ s. plays g z s (take i cs) old) e)) (run_law g lawful z mem k long (take i cs) old)

  pub run_leaves : now ≡ after g z (new_state mem k) (take i cs)
  run_leaves = f.state ∙ ap (λ s. after g z s (take i cs)) e

  pub run_tables : tab' ≡ table_of g.nodes (turns (take i cs) (take i rs) old new) tab
  run_tables = f.table ∙ ap (λ ts. table_of g.nodes ts tab) (sym f.given)

-- How many calls there is room for.

pub stop_end : (cs : List Call) (i a b : ℕ) → i ≡ min (length cs) a → room_for (drop i cs) (a - i) b ≡ 0
stop_end cs i a b e = go (drop i cs) (a - i) (omega (arith, length-drop i cs))
  where
    go : (cs : List Call) (a : ℕ) → min (length cs) a ≡ 0 → room_for cs a b ≡ 0
    go [] a e = refl
    go (c ∷ cs) zero e = refl
    go (c ∷ cs) (suc a) e = absurd (omega (arith, e))

-- where there is room for one more call: it is there, and so is room for its answer and its result memory; and how many more there then are
pub record HasRoom (cs : List Call) (i : ℕ) (d : Call) (a b : ℕ) : Type 0 where
  pub call : i < length cs
  pub answer : 0 < a
  pub result : lent (get_or cs i d) ≤ b
  pub more : room_for (drop i cs) a b ≡ 1 + room_for (drop (i + 1) cs) (a - 1) (b - lent (get_or cs i d))

pub has_room : (cs : List Call) (i : ℕ) (d : Call) (a b : ℕ) → 0 < room_for (drop i cs) a b → HasRoom cs i d a b
has_room cs i d a b r =
    ⊎_elim
    (λ (h : i < length cs).
    let o : room_for (drop i cs) a b ≡ cond (nat_lt 0 a && nat_le (lent (get_or cs i d)) b) (1 + room_for (drop (i + 1) cs) (a - 1) (b - lent (get_or cs i d))) 0 =
    ap (λ xs. room_for xs a b) (drop_more cs i d h) in
    record { call = h; answer = grind (arith, nat_tests); result = grind (arith, nat_tests); more = o ∙ grind (arith, nat_tests) })
    (λ (h : length cs ≤ i). let o : room_for (drop i cs) a b ≡ 0 = ap (λ xs. room_for xs a b) (drop_all i cs h) in absurd (omega (arith, o, r)))
    (cases_lt i (length cs))

-- n entries on
pub room_on : (cs : List Call) (i : ℕ) (d : Call) (rs ms at n : ℕ) → n ≡ lent (get_or cs i d) → HasRoom cs i d (rs - i) (ms - at) → room_for (drop i cs) (rs - i) (ms - at) ≡ 1 + room_for (drop (i + 1) cs) (rs - (i + 1)) (ms - (at + n))
room_on cs i d rs ms at n e h =
    let a : rs - i - 1 ≡ rs - (i + 1) = omega arith in
    let b : ms - at - lent (get_or cs i d) ≡ ms - (at + n) = omega (arith, e) in
    h.more ∙ ap (λ k. 1 + room_for (drop (i + 1) cs) k (ms - at - lent (get_or cs i d))) a ∙ ap (λ k. 1 + room_for (drop (i + 1) cs) (rs - (i + 1)) k) b
