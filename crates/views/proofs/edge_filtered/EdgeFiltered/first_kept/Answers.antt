use Rattle.std.proofs.Common.{◌≡◌, Bool, sym, ◌∙◌, rules, tests}
use Rattle.std.proofs.lemmas.Iterator.Adapters.{option_map_id}
use Rattle.std.proofs.lemmas.Iterator.Search.{find_from_yields_List}
use Rattle.std.proofs.lemmas.Iterator.Consumers.{YieldsList-from_first}
use Rattle.std.specs.List.{find}
use Rattle.model.specs.Model.{Entry, from}
use Rattle.model.proofs.Keeps.{find_kept}
use Rattle.views.proofs.edge_filtered.EdgeFiltered.first_kept.Goals as goal

pub returns : goal.returns
returns g c =
    let row = (g.G.Graph.model c.args.self.now.0).row c.args.direction c.args.a in
    let p : Entry → Bool = λ x. g.F.Filter.members c.args.self.now.1 x.1 in
    let found : c.find.result ≡ find p (from row c.args.place) =
    sym (option_map_id c.find.result)
    ∙ find_from_yields_List {v = λ x. x} p _ _ _ c.find.ensures.ran (YieldsList-from_first (λ x. x) (λ rest. rest) _ c.starting_at.ensures) (λ x b q k. search (rules, tests)) in
    found ∙ find_kept p row c.args.place ((g.G.Graph.lawful c.args.self.now.0).rows c.args.direction c.args.a).ascends
