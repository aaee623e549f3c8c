use Rattle.std.proofs.Common.{refl}
use Rattle.examples.proofs.examples.Goals as goal

pub returns : goal.returns
returns c =
    record {
      none_order = refl;
      none_cycle = refl;
      chain_order = refl;
      chain_cycle = refl;
      reversed_order = refl;
      reversed_cycle = refl;
      along = refl;
      against = refl;
      nowhere = refl;
      pair_cycle = refl;
      loop_cycle = refl;
      tailed_cycle_node = refl;
      opened_order = refl;
      opened_cycle = refl;
      fan_walk = refl;
      three_walks = (refl, record { answer = refl; list = refl }, (refl, record { answer = refl; list = refl }, (refl, record { answer = refl; list = refl }, (refl, record { answer = refl; list = refl }, (refl, record { answer = refl; list = refl }, (refl, record { answer = refl; list = refl }, (refl, record { answer = refl; list = refl }, (refl, record { answer = refl; list = refl }, (refl, record { answer = refl; list = refl }, tt)))))))));
      path_bridges = refl;
      path_cuts = refl;
      twin_bridges = refl;
      triangle_bridges = refl;
      triangle_cuts = refl;
      loop_bridges = refl;
    }
