use Rattle.std.proofs.lemmas.Result.{MatchResult-weaker}
use Rattle.format.proofs.Formed.{formed, malformed}
use Rattle.format.proofs.Graphs.{accepted}
use Rattle.image.proofs.accept.Goals as goal

pub returns : goal.returns
returns c =
    MatchResult-weaker c.check.result c.check.ensures
    (λ rows h. (h.0, record { accepted = h.1; formed = formed _ h.1; lawful = accepted _ h.1 }))
    (λ f h. record { first = h; malformed = malformed _ _ h })
