-- Part by part. Assumes nothing.
use Rattle.std.proofs.Common.{rules}
use Rattle.rules.specs.Net.{Net}
use Rattle.keymove_c.proofs.Sessions.{packed, code_read}
use Rattle.keymove_c.proofs.state.pack.Goals as goal

pub returns : goal.returns
returns c =
    let written = λ (net : Net). packed net c.args.s c.min-entered.result c.min-pieces.result c.put_padded.new.to c.put_counters.new.to c.copy_from_slice.new.self c.put_front.new.to (search rules) (search rules) c.min-entered.ensures c.min-pieces.ensures (search rules) c.put_counters.ensures.is c.copy_from_slice.ensures.after (search rules) in
    record {
      is = written;
      back = λ net. rw (written net) (code_read net c.args.s (search rules) (search rules) (search rules) c.put_counters.ensures.back c.put_pieces.ensures.back);
    }
