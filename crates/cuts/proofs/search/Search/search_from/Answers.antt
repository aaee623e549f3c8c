use Rattle.std.proofs.Common.{subst, arith}
use Rattle.lowpoint.specs.Steps.{LeadsTo}
use Rattle.lowpoint.proofs.Steps.{clock_most}
use Rattle.lowpoint.proofs.Outers.{root_ready, next_seen, next_root}
use Rattle.cuts.specs.Shape.{memory}
use Rattle.cuts.proofs.search.Search.search_from.Goals as goal

pub returns-then-self-i-ne0-clause-between : goal.returns-then-self-i-ne0-clause-between
returns-then-self-i-ne0-clause-between g c =
    let s = c.args.self.now in
    next_seen _ (g.G.Graph.lawful s.graph.now) s.two c.args.i c.requires.inside c.requires.between c.if-self-i-ne0.true

pub enter_root-requires : goal.enter_root-requires
enter_root-requires g c =
    let i = c.requires.inside in
    let d = c.requires.between.depth_is in
    record { below = i; depth = omega (arith, d, i); clock = clock_most (g.G.Graph.lawful c.args.self.now.graph.now) c.requires.between }

pub settle-requires : goal.settle-requires
settle-requires g c =
    let s = c.args.self.now in
    let r = root_ready (g.G.Graph.lawful s.graph.now) s.two c.args.i c.requires.inside c.requires.between c.if-self-i-ne0.false c.enter_root.ensures.memory in
    record { ready = rw c.enter_root.ensures.keeps.graph r }

pub returns-clause-between : goal.returns-clause-between
returns-clause-between g c =
    let s = c.args.self.now in
    let k = c.settle.ensures in
    let l = subst (λ m. LeadsTo m (memory c.enter_root.new.self) (memory c.settle.new.self)) c.enter_root.ensures.keeps.graph k.leads in
    next_root _ (g.G.Graph.lawful s.graph.now) s.two c.args.i c.requires.inside c.requires.between c.if-self-i-ne0.false c.enter_root.ensures.memory l k.still
