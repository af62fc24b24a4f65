use Rattle.partial_model.specs.Recording.{most_reads, count_within, keys_at, reads_at}
use Rattle.partial_state.proofs.Refusals.{refused_reads, reads_onward}
use Rattle.partial_state.proofs.Keys.{no_count, counted}
use Rattle.partial_state.proofs.reading.read_reads.Goals as goal

pub returns-in_err-count-clause-read : goal.returns-in_err-count-clause-read
returns-in_err-count-clause-read c = refused_reads _ c.from_residual.result c.in_err-count.field-0.0 c.args.reader.now c.read_count.new.reader reads_at (count_within most_reads c.args.reader.now) c.from_residual.ensures.1 (no_count c.args.reader.now) c.in_err-count.ensures.read

pub returns-clause-read : goal.returns-clause-read
returns-clause-read c = reads_onward _ c.read_keys.result c.args.reader.now c.read_count.new.reader c.read_keys.new.reader reads_at (keys_at c.in_ok-count.count) (counted c.args.reader.now c.read_count.new.reader c.in_ok-count.count c.in_ok-count.ensures.read) c.read_keys.ensures.read
