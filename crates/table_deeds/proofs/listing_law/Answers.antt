use Rattle.table_deeds.proofs.Listing.{listing}
use Rattle.table_deeds.proofs.listing_law.Goals as goal

pub returns : goal.returns
returns c = listing
