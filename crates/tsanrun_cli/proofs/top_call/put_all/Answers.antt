use Rattle.std.proofs.Common.{ap, sym, ◌∙◌, ◌≡◌, ◌++◌, drop, suc, take, get_or}
use Rattle.std.specs.List.{flat_map}
use Rattle.tool_ports.specs.Ports.{AppendsPart}
use Rattle.tsanrun_cli.specs.Work.{bytes_of}
use Rattle.tsanrun_cli.proofs.Pieces.{part_after, pieces_around, on_err}
use Rattle.tsanrun_cli.proofs.top_call.put_all.Goals as goal

pub returns-in_err-put_some-clause-err : goal.returns-in_err-put_some-clause-err
returns-in_err-put_some-clause-err g c =
    let pieces = c.args.pieces.now in
    let at = c.loop-piece.piece-index in
    let rest = flat_map bytes_of (drop (suc at) pieces) in
    let around : flat_map bytes_of pieces ≡ flat_map bytes_of (take at pieces) ++ (bytes_of (get_or pieces at c.piece-item.result) ++ rest) =
    pieces_around bytes_of pieces at c.piece-item.result c.loop-piece-test.true in
    let item : bytes_of (get_or pieces at c.piece-item.result) ≡ c.as_slice.result.now = ap bytes_of (sym c.piece-item.is) ∙ sym c.as_slice.ensures.value in
    let whole : flat_map bytes_of pieces ≡ flat_map bytes_of (take at pieces) ++ (c.as_slice.result.now ++ rest) = rw item at around in
    let part : AppendsPart (g.O.Sink.contents c.args.out.now) (g.O.Sink.contents c.put_some.new.out) (flat_map bytes_of pieces) =
    part_after _ _ _ (flat_map bytes_of (take at pieces)) c.as_slice.result.now rest (flat_map bytes_of pieces) whole c.loop-piece.invariant.put c.in_err-put_some.ensures.err in
    on_err c.from_residual.result _ part
