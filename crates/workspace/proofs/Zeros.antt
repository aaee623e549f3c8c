-- Memory with its first entries 0. Assumes nothing.
use Rattle.std.proofs.Common.{◌≡◌, ℕ, ◌-◌, ◌<◌, ◌≤◌, min, List, ◌++◌, length, get_or, drop, replicate, ◌∙◌, arith}
use Rattle.std.proofs.lemmas.List.{length-replicate, get_or_append_left, get_or-replicate}
use borrow.Rule.Slice.PartMut.{post_of}
use Rattle.workspace.specs.Questions.{zeroed}

pub zeroed_read : (n x : ℕ) (mem : List ℕ) → x < n → n ≤ length mem → get_or (zeroed n mem) x 0 ≡ 0
zeroed_read n x mem h l =
    let r = length-replicate {A = ℕ} (min n (length mem)) 0 in
    get_or_append_left (replicate (min n (length mem)) 0) (drop n mem) 0 x (omega arith) ∙ get_or-replicate (min n (length mem)) x 0 0 (omega arith)

-- memory whose first k entries are now a
abbrev pub refilled : ℕ → List ℕ → List ℕ → List ℕ
refilled k a mem = a ++ post_of 0 (k - 0) mem
