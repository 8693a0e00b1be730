use Rattle.makeable_deals.proofs.file.makeable_found.Goals as goal

pub returns-in-Ok : goal.returns-in-Ok
returns-in-Ok g c = rw c.in-Ok.is (c.makeable_of_reader.new.reader, c.makeable_of_reader.ensures)
