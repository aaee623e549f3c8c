-- Sets of numbers: the first that is not in one, as a loop looks for it. Assumes nothing.
use Rattle.std.proofs.Common.{◌≡◌, ℕ, suc, ◌+◌, ◌-◌, ◌<◌, ◌≤◌, true, false, Some, None, arith}
use Rattle.model.specs.Sets.{Set, first_free}

module _ (s : Set) (n k : ℕ) where
  pub free_step : k < n → s k ≡ true → first_free s k (n - k) ≡ first_free s (k + 1) (n - (k + 1))
  free_step h y = let e : n - k ≡ suc (n - (k + 1)) = omega arith in rw (e, y)

  pub free_stop : k < n → s k ≡ false → first_free s k (n - k) ≡ Some k
  free_stop h y = let e : n - k ≡ suc (n - (k + 1)) = omega arith in rw (e, y)

  pub free_over : n ≤ k → first_free s k (n - k) ≡ None
  free_over h = let e : n - k ≡ 0 = omega arith in rw e
