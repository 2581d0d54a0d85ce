-- Assumes nothing.
use Rattle.std.proofs.Common.{◌<◌, ◌^◌, sym, arith}
use lib.Ieee.Casts.{to_signed_in}
use Rattle.report.proofs.Texts.{exact_text, none_text, spent_text, refused_text, passed}
use Rattle.report.proofs.LineDisplay.fmt.Goals as goal

pub returns-in-Exact-clause-writes : goal.returns-in-Exact-clause-writes
returns-in-Exact-clause-writes g c = λ plain ok.
    let t : c.in-Exact.key < 2 ^ 64 = omega arith in
    let n : c.in-Exact.nodes < 2 ^ 64 = omega arith in
    let v = c.in-Exact.value in
    rw (c.in-Exact.is, exact_text c.in-Exact.key c.in-Exact.nodes v t n (to_signed_in 63 v), sym (passed v c.saturating_f64_to_i64-whole.ensures)) (c.write.ensures.writes plain ok)

pub returns-in-None-clause-writes : goal.returns-in-None-clause-writes
returns-in-None-clause-writes g c = λ plain ok. rw (c.in-None.is, none_text) (c.write_str.ensures.writes plain ok)

pub returns-in-Spent-clause-writes : goal.returns-in-Spent-clause-writes
returns-in-Spent-clause-writes g c = λ plain ok.
    let n : c.in-Spent.nodes < 2 ^ 64 = omega arith in
    rw (c.in-Spent.is, spent_text c.in-Spent.nodes n) (c.write-in-Spent.ensures.writes plain ok)

pub returns-in-Refused-clause-writes : goal.returns-in-Refused-clause-writes
returns-in-Refused-clause-writes g c = λ plain ok.
    let l : c.in-Refused.line < 2 ^ 64 = omega arith in
    let n : c.in-Refused.nodes < 2 ^ 64 = omega arith in
    let x : c.from-number.result < 2 ^ 64 = omega arith in
    rw (c.in-Refused.is, refused_text c.in-Refused.refusal c.in-Refused.line c.in-Refused.nodes c.from-number.result c.from-number.ensures x l n) (c.write-in-Refused.ensures.writes plain ok)
