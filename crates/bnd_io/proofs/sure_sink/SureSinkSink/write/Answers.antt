use Rattle.std.proofs.Common.{◌≡◌, ◌∙◌, subst, ◌^◌, ◌-◌, ◌≤◌, min, length, ◌||◌, nat_lt, rules}
use Rattle.bnd_io.specs.Sure.{SureSinkView, kept_on}
use Rattle.bnd_io.proofs.Keeping.{kept_bytes, fewer_taken}
use Rattle.bnd_io.proofs.sure_sink.SureSinkSink.write.Goals as goal

pub returns-clause-kept : goal.returns-clause-kept
returns-clause-kept c =
    let kept = c.self.inside.bytes.items in
    let piece = c.args.piece.now in
    let within : length kept ≤ 2 ^ 23 = search rules in
    let least : c.min-n.result ≡ min (length piece) (2 ^ 23 - length kept) = search rules in
    let bytes = c.in-Ok.ensures.items ∙ kept_bytes (2 ^ 23) c.min-n.result kept piece within least in
    let fewer = fewer_taken (2 ^ 23) c.min-n.result (length kept) (length piece) within least in
    subst (λ old. ◌≡◌ {A = SureSinkView} (record { bytes = c.extend_from_slice.new.self.items; dropped = c.self.inside.dropped || nat_lt c.min-n.result (length piece) }) (kept_on old piece)) c.self.view_is (λ i. record { bytes = bytes i; dropped = c.self.inside.dropped || fewer i })
