use Rattle.examples.proofs.worthless.Goals as goal

-- what is due, by computation, is not what the last turn gives
pub returns : goal.returns
returns c =
    record {
      ends_at_once = λ l. cc;
      feigns_later = λ l. cc;
      refused_as_stray = λ l. cc;
      ignores_views = λ l. cc;
      too_few = λ l. l.answered.2;
      too_many = λ l. l.answered.2;
      always_a_cycle = λ l. cc;
      always_an_order = λ l. cc;
      order_of_two = λ l. cc;
      order_backwards = λ l. cc;
      order_unwritten = λ l. cc;
      past_the_list = λ l. cc;
      refused_as_short = λ l. cc;
      path_made_up = λ l. cc;
      path_denied = λ l. cc;
      no_bridges = λ l. cc;
      three_bridges = λ l. cc;
      no_cut_nodes = λ l. cc;
    }
