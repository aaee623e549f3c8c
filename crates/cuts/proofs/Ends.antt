-- The ends of an edge are numbers below N.
use Rattle.std.proofs.Common.{◌≡◌, ℕ, ◌<◌, Some, sym}
use Rattle.model.specs.Model.{Model, Lawful}

pub ends_below : {m : Model} → Lawful m → (e : ℕ) {t h : ℕ} → Some (t, h) ≡ m.ends e → (t < m.nodes) × (h < m.nodes)
ends_below w e {t = t} {h = h} is = let k = w.known e t h (sym is) in (w.within t k.1, w.within h k.2)
