-- What an impl gives as its laws: proofs, to be passed over.
pub mod KindLaws
pub mod ThreeWordLaws
pub mod ThreeWordMoveLaws
pub mod ThreeWordStepLaws
pub mod TwoCollectLaws
pub mod TwoCollectMarkLaws
pub mod TwoCollectMoveLaws
pub mod TwoCollectOutcomeLaws
pub mod TwoCollectPassLaws
pub mod TwoCollectStartLaws
pub mod TwoCollectStepLaws
pub mod TwoCollectWordLaws
