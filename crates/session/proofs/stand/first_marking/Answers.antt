-- By what is read. Assumes nothing.
use Rattle.std.proofs.Common.{ℕ, arith}
use lib.ListN.{replicate, length-replicate}
use Rattle.rows.specs.Packed.{net_in}
use Rattle.sheet.proofs.Given.{read_net, read_kept}
use Rattle.indexed.proofs.Accepted.{sheet_limited}
use Rattle.session.proofs.stand.first_marking.Goals as goal

pub marking_of_rows-requires : goal.marking_of_rows-requires
marking_of_rows-requires c =
    let s = c.in_ok-size.size in (
      sheet_limited c.args.sheet.now (net_in s.transitions s.places s.rows c.read_sheet.new.rows) (read_net c.read_sheet.result s c.read_sheet.new.rows c.args.sheet.now c.in_ok-size.was c.read_sheet.ensures.rows_after),
      omega (arith, (read_kept c.read_sheet.result s (replicate 6560 0) c.read_sheet.new.rows c.in_ok-size.was c.read_sheet.ensures.beyond).rows_most, length-replicate {A = ℕ} 6560 0),
    )
