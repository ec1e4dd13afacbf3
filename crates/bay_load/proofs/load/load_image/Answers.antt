use Rattle.il_image.specs.Decoding.{decoded_image}
use Rattle.bay_load.proofs.LoadLemmas.{image-ok, image-refused}
use Rattle.bay_load.proofs.load.load_image.Goals as goal

pub returns-clause-ok : goal.returns-clause-ok
returns-clause-ok c =
    image-ok c.args.bay.value (decoded_image c.args.image.now) c.in_ok-image.image
    c.load_decoded.result c.in_ok-image.ensures.image
    (rw c.none.ensures at c.load_decoded.ensures.ok) c.load_decoded.ensures.accepted

pub returns-clause-refused : goal.returns-clause-refused
returns-clause-refused c =
    image-refused c.args.bay.value (decoded_image c.args.image.now) c.in_ok-image.image
    c.load_decoded.result c.in_ok-image.ensures.image c.load_decoded.ensures.refused
