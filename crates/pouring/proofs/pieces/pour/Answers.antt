use Rattle.std.proofs.Common.{◌≡◌, ◌++◌, ◌+◌, ◌<◌, ◌^◌, [], length, take, subst, rules, IfSome}
use Rattle.point_text.specs.Reading.{bytes_taken}
use Rattle.pouring.proofs.Counts.{continues_on, no_fault_on}
use Rattle.pouring.proofs.Poured.{took_piece, took_all, took_too_many, took_wanting}
use Rattle.pouring.proofs.pieces.pour.Goals as goal

pub returns-in-Ok-eq0-clause-stands : goal.returns-in-Ok-eq0-clause-stands
returns-in-Ok-eq0-clause-stands g c =
    let old = g.F.Files.state c.args.files.now in
    let now = g.F.Files.state c.pieces.files in
    let at_end : IfSome now.told (λ _. now.left ≡ []) = search rules in
    took_all c.args.reader.now c.pieces.reader old.told old.left now.left c.pieces.invariant.stands (subst (λ told. IfSome told (λ _. now.left ≡ [])) c.pieces.invariant.continues.told at_end)

pub returns-then-n-left-clause-long_file : goal.returns-then-n-left-clause-long_file
returns-then-n-left-clause-long_file g c long =
    let old = g.F.Files.state c.args.files.now in
    let now = g.F.Files.state c.pieces.files in
    let new = g.F.Files.state c.read.new.self in
    let piece = take c.in-Ok.n c.read.new.buf in
    let parts = subst (λ told. IfSome told (λ _. now.left ≡ piece ++ new.left)) c.pieces.invariant.continues.told c.in-Ok.ensures.took.left in
    let past : 2 ^ 21 < bytes_taken c.pieces.reader + length piece = search rules in
    took_too_many (2 ^ 21) c.args.reader.now c.pieces.reader old.told old.left now.left piece new.left c.pieces.invariant.stands c.requires.empty.0 c.requires.empty.1 parts past

pub returns-in-Err-feed-clause-kept : goal.returns-in-Err-feed-clause-kept
returns-in-Err-feed-clause-kept g c wants shape empty =
    let old = g.F.Files.state c.args.files.now in
    let now = g.F.Files.state c.pieces.files in
    let new = g.F.Files.state c.read.new.self in
    let piece = take c.in-Ok.n c.read.new.buf in
    let parts = subst (λ told. IfSome told (λ _. now.left ≡ piece ++ new.left)) c.pieces.invariant.continues.told c.in-Ok.ensures.took.left in
    took_wanting c.args.reader.now c.pieces.reader old.told old.left now.left piece new.left c.pieces.invariant.stands c.in-Err-feed.ensures.memory parts shape empty

pub pieces-preserved : goal.pieces-preserved
pieces-preserved g c =
    let old = g.F.Files.state c.args.files.now in
    let now = g.F.Files.state c.pieces.files in
    let new = g.F.Files.state c.read.new.self in
    let piece = take c.in-Ok.n c.read.new.buf in
    let parts = subst (λ told. IfSome told (λ _. now.left ≡ piece ++ new.left)) c.pieces.invariant.continues.told c.in-Ok.ensures.took.left in
    record {
      within = search rules;
      continues = continues_on old now new c.pieces.invariant.continues c.in-Ok.ensures.continues;
      no_fault = no_fault_on old now new c.pieces.invariant.no_fault c.in-Ok.ensures.no_fault;
      counted = search rules;
      total = search rules;
      same_file = search rules;
      taken = search rules;
      not_ended = search rules;
      going = c.in-Ok-feed.ensures.going;
      stands = took_piece c.args.reader.now c.pieces.reader c.feed.new.self old.told old.left now.left piece new.left c.pieces.invariant.stands c.feed.ensures.stands parts;
    }
