use Rattle.bus_picture.proofs.pictures.push_styles.Goals as goal

pub returns : goal.returns
returns c = c.in_ok-push_str.ensures.bytes
