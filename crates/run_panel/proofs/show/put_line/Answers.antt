-- The first id, the others, and the line's end. Assumes nothing.
use Rattle.run_panel.proofs.Rows.{first-room, spaced-room, line-written}
use Rattle.run_panel.proofs.show.put_line.Goals as goal

pub put_spaced-past-requires : goal.put_spaced-past-requires
put_spaced-past-requires c = first-room c.args.ids.now c.requires.0 c.requires.1 _ c.from.ensures c.put_number-first.ensures

pub put-requires : goal.put-requires
put-requires c = spaced-room c.args.ids.now c.requires.0 c.requires.1 _ c.from.ensures c.put_number-first.ensures c.put_spaced-past.ensures

pub returns : goal.returns
returns c = line-written c.args.ids.now c.requires.0 c.requires.1 _ c.from.ensures c.put_number-first.ensures c.put_spaced-past.ensures c.put.ensures
