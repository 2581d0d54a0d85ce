-- A net that was read is within the limits of compiling, and the rows are as many as were read. Assumes nothing.
use mathlib.Core.Path.{refl, sym, subst}
use lib.ListN.{take}
use Rattle.rows.specs.Packed.{net_in}
use Rattle.indexed.specs.Limited.{Limited}
use Rattle.sheet.proofs.Given.{read_net}
use Rattle.indexed.proofs.Accepted.{sheet_limited}
use Rattle.indexed.proofs.More.{front_net}
use Rattle.walk_check.proofs.answer.Goals as goal

pub invariant_of-net : goal.invariant_of-net
invariant_of-net g c =
    let s = c.in-Ok.size in
    let r = c.read_sheet.new.rows in
    let limited = sheet_limited _ (net_in s.transitions s.places s.rows r) (read_net _ s r _ c.in-Ok.is c.read_sheet.ensures.rows_after) in
    record { limited = subst Limited (sym (front_net s.transitions s.places s.rows r (take s.rows r) refl)) limited }
