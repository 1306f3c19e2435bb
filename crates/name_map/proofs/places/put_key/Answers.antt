use Rattle.name_map.proofs.KeptLemmas.{is-put}
use Rattle.name_map.proofs.places.put_key.Goals as goal

pub returns-clause-put : goal.returns-clause-put
returns-clause-put c =
    is-put c.new_key.new.edges (c.args.owner, c.args.name.now) c.args.places.now c.place_or.new.places c.args.end c.in_ok-key.key c.in_ok-key.ensures.key c.place_or.result c.place_or.ensures.place c.place_or.ensures.found
