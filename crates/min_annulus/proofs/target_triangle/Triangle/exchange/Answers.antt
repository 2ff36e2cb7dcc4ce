use Rattle.min_annulus.proofs.MachineNumbers.{yes, no, change}
use Rattle.min_annulus.proofs.Exchange.{last_leaves, first_leaves, middle_leaves}
use Rattle.min_annulus.proofs.target_triangle.Triangle.exchange.Goals as goal

pub returns-then-not-a_left-clause-around : goal.returns-then-not-a_left-clause-around
returns-then-not-a_left-clause-around c =
    let old = c.requires.around in
    record {
      a = old.a;
      b = old.b;
      c = c.requires.pair;
      around = last_leaves c.args.self.a.difference c.args.self.b.difference c.args.self.c.difference c.args.d.difference old.a c.requires.pair old.around
          (no c.if-not-a_left.true c.has_target_left-a_left.ensures.1) (yes c.if-b_left.true c.has_target_left-b_left.ensures.0);
    }

pub returns-then-not-b_left-clause-around : goal.returns-then-not-b_left-clause-around
returns-then-not-b_left-clause-around c =
    let old = c.requires.around in
    record {
      a = c.requires.pair;
      b = old.b;
      c = old.c;
      around = first_leaves c.args.self.a.difference c.args.self.b.difference c.args.self.c.difference c.args.d.difference old.b c.requires.pair old.around
          (no c.if-not-b_left.true c.has_target_left-b_left.ensures.1) (yes c.if-c_left.true c.has_target_left-c_left.ensures.0);
    }

pub returns-clause-around : goal.returns-clause-around
returns-clause-around c =
    let old = c.requires.around in
    record {
      a = old.a;
      b = c.requires.pair;
      c = old.c;
      around = middle_leaves c.args.self.a.difference c.args.self.b.difference c.args.self.c.difference c.args.d.difference old.a old.c c.requires.pair old.around
          (change c.else-b_left.either c.has_target_left-a_left.ensures.0 c.has_target_left-b_left.ensures.1)
          (change c.else-c_left.either c.has_target_left-b_left.ensures.0 c.has_target_left-c_left.ensures.1);
    }
