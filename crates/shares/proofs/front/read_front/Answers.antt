-- The bytes up to there, read again.
-- Assumes nothing.
use mathlib.Core.Path.{sym}
use lib.Seq.{length-take-le}
use Rattle.list.specs.Machine.{Bytes}
use Rattle.shares.proofs.FrontCases.{reader_end, front_read}
use Rattle.shares.proofs.front.read_front.Goals as goal

pub slice_bounds-read-end : goal.slice_bounds-read-end
slice_bounds-read-end c =
    let bytes : Bytes c.args.share.now = λ i. (c.type_inv.share i).fits in
    let ends = reader_end c.args.share.now c.read.result c.read_end-end.result bytes c.read.ensures c.read_end-end.ensures in
    sym (length-take-le c.read_end-end.result c.args.share.now ends.inside)

pub returns : goal.returns
returns c =
    let bytes : Bytes c.args.share.now = λ i. (c.type_inv.share i).fits in
    let ends = reader_end c.args.share.now c.read.result c.read_end-end.result bytes c.read.ensures c.read_end-end.ensures in
    front_read c.args.share.now c.read_end-end.result c.read-2.result bytes ends c.read-2.ensures
