-- Stack memory as a list, the top first, and what a step of the walk does to it. Assumes nothing.
use Rattle.std.proofs.Common.{◌≡◌, ℕ, zero, suc, ◌+◌, ◌<◌, ◌≤◌, Bool, true, false, cond, Some, None, Ok, List, [], ◌∷◌, length, get_or, set, refl, ap, ◌∙◌, inl, inr, add-zero, arith}
use Rattle.std.proofs.lemmas.List.{length-set, length-append, length-replicate, length-drop}
use Rattle.model.specs.Model.{Entry}
use Rattle.model.specs.Paths.{In}
use Rattle.model.specs.Sets.{Set, add}
use Rattle.theory.specs.Search.{Rows}
use Rattle.theory.specs.Memory.{down}
use Rattle.theory.specs.Models.{fars}
use Rattle.theory.specs.Walk.{ended, shows, pushed, step}
use Rattle.theory.proofs.Memory.{down_push}
use Rattle.workspace.specs.Calls.{top_of, unmarked, write}
use Rattle.workspace.specs.Questions.{zeroed}

-- each of the list on top of the one before
abbrev pub pushes : List ℕ → List ℕ → List ℕ
pushes [] st = st
pushes (x ∷ xs) st = pushes xs (x ∷ st)

pub write_length : (xs mem : List ℕ) (d : ℕ) → length (write mem d xs) ≡ length mem
write_length [] mem d = refl
write_length (x ∷ xs) mem d = write_length xs (set mem d x) (d + 1) ∙ length-set mem d x

pub zeroed_length : (n : ℕ) (mem : List ℕ) → length (zeroed n mem) ≡ length mem
zeroed_length n mem = simp (length-append, length-replicate, length-drop) (omega arith)

pub down_write : (xs mem : List ℕ) (d : ℕ) → d + length xs ≤ length mem → down (write mem d xs) (d + length xs) ≡ pushes xs (down mem d)
down_write [] mem d h = ap (down mem) (add-zero d)
down_write (x ∷ xs) mem d h =
    let l = length-set mem d x in
    let r = down_write xs (set mem d x) (d + 1) (omega arith) in
    let e : d + length (x ∷ xs) ≡ d + 1 + length xs = omega arith in
    let s = down_push mem d x (omega arith) in
    ap (down (write (set mem d x) (d + 1) xs)) e ∙ r ∙ ap (pushes xs) s

pub pushes_unmarked : (m : Set) (es : List Entry) (st : List ℕ) → pushes (unmarked m es) st ≡ pushed m (fars es) st
pushes_unmarked m [] st = refl
pushes_unmarked m (x ∷ es) st =
    elim (m x.2) as (λ b. pushes (cond b (unmarked m es) (x.2 ∷ unmarked m es)) st ≡ pushed m (fars es) (cond b st (x.2 ∷ st))) [
      | true ↦ pushes_unmarked m es st
      | false ↦ pushes_unmarked m es (x.2 ∷ st)
    ]

-- what is found below the top: nothing, or the node that the step shows
pub record FoundAt (row : Rows) (m : Set) (mem : List ℕ) (d x k : ℕ) : Type 0 where
  pub below : k < d
  pub steps : step row m (down mem d) ≡ shows x (add m x) (pushed (add m x) (row x) (down mem k))
  pub new : m x ≡ false
  pub on : In x (down mem d)
  pub rest : (y : ℕ) → In y (down mem k) → In y (down mem d)

pub data Looks (row : Rows) (present m : Set) (mem : List ℕ) (d : ℕ) : Type 0 where
  nothing_left : top_of present m mem d ≡ Ok None → step row m (down mem d) ≡ ended → Looks row present m mem d
  found : (x k : ℕ) → top_of present m mem d ≡ Ok (Some (x, k)) → FoundAt row m mem d x k → Looks row present m mem d

pub look : (row : Rows) (present m : Set) (mem : List ℕ) (d : ℕ) → ((x : ℕ) → In x (down mem d) → present x ≡ true) → Looks row present m mem d
look row present m mem zero p = nothing_left refl refl
look row present m mem (suc d) p = go (m (get_or mem d 0)) refl (look row present m mem d (λ x i. p x (inr i)))
  where
    here : present (get_or mem d 0) ≡ true
    here = p (get_or mem d 0) (inl refl)

    go : (b : Bool) → m (get_or mem d 0) ≡ b → Looks row present m mem d → Looks row present m mem (suc d)
    go true y (nothing_left t s) = nothing_left (rw (here, y) t) (rw y s)
    go true y (found x k t f) = found x k (rw (here, y) t) (record { below = omega (arith, f.below); steps = rw y f.steps; new = f.new; on = inr f.on; rest = λ z i. inr (f.rest z i) })
    go false n l = found (get_or mem d 0) d (rw (here, n)) (record { below = omega arith; steps = rw n; new = n; on = inl refl; rest = λ z i. inr i })
